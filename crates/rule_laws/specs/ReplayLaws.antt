-- The replay claim: after any run, what the replay of its constraint changes holds is what the graph holds. Assumes nothing.
use Prim.Native.Nat.{ℕ, zero, suc, ◌+◌, ◌-◌, ◌≤◌, ◌<◌}
use Rattle.std.specs.Prelude.{◌≡◌, refl, ◌≢◌, Bool, ◌&&◌, eqb, T, get_or, take, ℤ, pos, Option, None, Some}
use Rattle.std.proofs.Math.Path.{sym, ap, subst₂}
use Rattle.std.proofs.Common.{subst, ◌∙◌, length-take-le}
use Rattle.std.proofs.Math.Bool.{true, false, cond}
use mathlib.Core.List.{List, [], ◌∷◌, ◌++◌, map, map-map, Memᴰ}
use native.Mathlib.Omega.{arith}
use Rattle.std.proofs.Math.Decide.{dec_le}
use Rattle.std.proofs.Math.Dec.{eqb-suc-zero}
use Rattle.std.proofs.Math.ListN.{length, length-append}
use Rattle.std.proofs.lemmas.List.{length-map}
use Rattle.rules.specs.Inputs.{Inputs}
use Rattle.rules.specs.Records.{Pair, Names, Manifold}
use Rattle.rules.specs.Matching.{with_points}
use Rattle.rules.specs.Update.{Updated, updated}
use Rattle.rules.specs.Graph.{Graph, empty_graph, Addition, plain_add, new_id}
use Rattle.rules.specs.Status.{Pass, Change, bit_of, standing_bits, visit_all, plain_step}
use Rattle.rules.specs.Solver.{Write, pair_written, plain_write, plain_writes}
use Rattle.rules.specs.Runs.{Held, Entry, addition, stepping, impulses, Answer, added, stepped, plain_call, plain_graph, unless_refused, manifolds_of, replay, names_both, keeps_generating, held_in, ProvisosAt, Provisos}
use Rattle.rule_laws.specs.Replayed.{RoomAt, Room}
use Rattle.rule_laws.specs.Stripped.{stripped_point, stripped}
use Rattle.rule_laws.specs.SolverLaws.{written_kept}
use Rattle.rule_laws.specs.LookupLaws.{Test, same, other, test, tally, ids, find, first, mapped, find_id, find_mem, find_counted, mem_counted, mem_find, find_append, find_map, ids_map, tally_ids_append, eqb_other}
use Rattle.rule_laws.specs.VisitLaws.{visit_changes, becoming, tally_one}
use Rattle.rule_laws.specs.PassingLaws.{Passed, passed, bits_in, bits_above}
use Rattle.rule_laws.specs.OutcomeLaws.{Brief, brief, counting, outcome, names_kept}
use Rattle.rule_laws.specs.SettlingLaws.{Quiet, Quieted, held_b, verdict_b, changes_for_b, quieted, settled, outcome_of, outcome_of_brief, visit_changes_brief}

-- ---- the replay along a run, from what each step began with

-- the pairs as the step's updates left them, before the status pass removes any: the number that a contact 'then has'
abbrev pub after_updates : Inputs → Graph → List Pair
after_updates i g = map (λ (p : Pair). (updated i p).pair) g.pairs

unfoldable pub replay_entry : Entry → Graph → Held → Held
unfolding replay plain_step
replay_entry (addition r a) g h = h
replay_entry (stepping r i) g h = cond (eqb (r g) 0) (replay (after_updates i g) (plain_step i g).changes h) h
replay_entry (impulses ws) g h = h

unfoldable pub replay_run : List Entry → Graph → Held → Held
unfolding replay_entry plain_call
replay_run [] g h = h
replay_run (e ∷ es) g h = replay_run es (plain_call e g).graph (replay_entry e g h)

-- the claim: what the replay holds is what the graph holds
abbrev pub ReplayHolds : Type 0
ReplayHolds =
    (n : ℕ) (es : List Entry) → Provisos es (empty_graph n) → Room es (empty_graph n) →
    (id : ℕ) → replay_run es (empty_graph n) (λ _. None) id ≡ held_in (plain_graph es (empty_graph n)).pairs id

-- ---- a graph between calls

pub record Sound (g : Graph) : Type 0 where
  -- an id that was given is of one pair, or free once, and not both; no other id is either
  pub once : (x : ℕ) → x < g.given → tally x (ids g.pairs) + tally x g.free ≡ 1
  pub never : (x : ℕ) → g.given ≤ x → tally x (ids g.pairs) + tally x g.free ≡ 0
  pub sized : length g.pairs + length g.free ≡ g.given
  pub fits : g.given ≤ g.capacity
  pub quiet : (k : ℕ) → Quieted (mapped brief (find k g.pairs))

-- what is to be held of an id
abbrev pub held_at : List Pair → ℕ → Option ℤ
held_at ps k = held_b (mapped brief (find k ps))

abbrev pub Holds : Graph → Held → Type 0
Holds g h = (k : ℕ) → h k ≡ held_at g.pairs k

pub held_in_at : (ps : List Pair) (k : ℕ) → held_in ps k ≡ held_at ps k
unfolding held_in find
held_in_at [] k = refl
held_in_at (p ∷ ps) k = go (eqb p.names.id k) (held_in_at ps k)
  where
    go : (t : Bool) → held_in ps k ≡ held_at ps k →
        cond t (cond (p.flags.touching && p.flags.generate_constraints) (Some (pos (length p.manifolds))) None) (held_in ps k) ≡
        held_b (mapped brief (cond t (Some p) (find k ps)))
    go true e = refl
    go false e = e

at_most : (g : Graph) → Sound g → (x : ℕ) → tally x (ids g.pairs) + tally x g.free ≤ 1
at_most g s x = go (dec_le (suc x) g.given)
  where
    go : Dec (x < g.given) → tally x (ids g.pairs) + tally x g.free ≤ 1
    go (yes l) = omega (arith, s.once x l)
    go (no n) = omega (arith, s.never x (omega arith))

within : (g : Graph) → Sound g → (x : ℕ) → 1 ≤ tally x (ids g.pairs) + tally x g.free → x < g.given
within g s x h = go (dec_le (suc x) g.given)
  where
    go : Dec (x < g.given) → x < g.given
    go (yes l) = l
    go (no n) = absurd (omega (arith, s.never x (omega arith)))

-- by membership: a pair of the list is quiet, is found under its id, and its id was given; a graph that is not full has room
pub sound_find : (g : Graph) → Sound g → (p : Pair) → Memᴰ p g.pairs → find p.names.id g.pairs ≡ Some p
sound_find g s p m = mem_find g.pairs p (omega (arith, at_most g s p.names.id)) m

pub sound_quiet : (g : Graph) → Sound g → (p : Pair) → Memᴰ p g.pairs → Quiet (brief p)
sound_quiet g s p m = subst (λ (o : Option Pair). Quieted (mapped brief o)) (sound_find g s p m) (s.quiet p.names.id)

pub sound_given : (g : Graph) → Sound g → (p : Pair) → Memᴰ p g.pairs → p.names.id < g.given
sound_given g s p m = within g s p.names.id (omega (arith, mem_counted g.pairs p m))

pub sound_room : (g : Graph) → Sound g → length g.pairs ≢ g.capacity → length g.pairs < g.capacity
sound_room g s n = omega (arith, s.sized, s.fits)

-- ---- what is found in lists that were mapped

abbrev pub bit_at : Inputs → Option Pair → Bool
bit_at i None = false
bit_at i (Some p) = (updated i p).bit

bit_of_find : (i : Inputs) (k : ℕ) (ps : List Pair) → bit_of k (map (updated i) ps) ≡ bit_at i (find k ps)
unfolding bit_of find
bit_of_find i k [] = refl
bit_of_find i k (p ∷ ps) =
    ap (λ (n : Names). cond (eqb n.id k) (updated i p).bit (bit_of k (map (updated i) ps))) (names_kept i p) ∙ go (eqb p.names.id k) (bit_of_find i k ps)
  where
    go : (t : Bool) → bit_of k (map (updated i) ps) ≡ bit_at i (find k ps) →
        cond t (updated i p).bit (bit_of k (map (updated i) ps)) ≡ bit_at i (cond t (Some p) (find k ps))
    go true e = refl
    go false e = e

abbrev pub count_at : Option Pair → ℤ
count_at None = pos 0
count_at (Some p) = pos (length p.manifolds)

pub manifolds_of_find : (k : ℕ) (ps : List Pair) → manifolds_of k ps ≡ count_at (find k ps)
unfolding manifolds_of find
manifolds_of_find k [] = refl
manifolds_of_find k (p ∷ ps) = go (eqb p.names.id k) (manifolds_of_find k ps)
  where
    go : (t : Bool) → manifolds_of k ps ≡ count_at (find k ps) → cond t (pos (length p.manifolds)) (manifolds_of k ps) ≡ count_at (cond t (Some p) (find k ps))
    go true e = refl
    go false e = e

-- ---- a step

abbrev pub pass_start : Inputs → Graph → Pass
pass_start i g = record {
  graph = record { capacity = g.capacity; given = g.given; free = g.free; pairs = map (λ (u : Updated). u.pair) (map (updated i) g.pairs) };
  events = [];
  changes = [];
}

abbrev pub pass_bits : Inputs → Graph → List ℕ
pass_bits i g = standing_bits 0 g.capacity (map (updated i) g.pairs)

abbrev pub pass_end : Inputs → Graph → Pass
pass_end i g = visit_all (pass_start i g) (pass_bits i g)

pub step_graph : (i : Inputs) (g : Graph) → (plain_step i g).graph ≡ (pass_end i g).graph
unfolding plain_step
step_graph i g = refl

pub step_changes : (i : Inputs) (g : Graph) → (plain_step i g).changes ≡ (pass_end i g).changes
unfolding plain_step
step_changes i g = refl

start_pairs : (i : Inputs) (g : Graph) → (pass_start i g).graph.pairs ≡ after_updates i g
start_pairs i g = map-map (λ (u : Updated). u.pair) (updated i) g.pairs

start_find : (i : Inputs) (g : Graph) (k : ℕ) → find k (pass_start i g).graph.pairs ≡ mapped (λ (p : Pair). (updated i p).pair) (find k g.pairs)
start_find i g k = ap (find k) (start_pairs i g) ∙ find_map (λ (p : Pair). (updated i p).pair) (names_kept i) k g.pairs

start_tally : (i : Inputs) (g : Graph) (x : ℕ) → tally x (ids (pass_start i g).graph.pairs) ≡ tally x (ids g.pairs)
start_tally i g x = ap (λ (l : List Pair). tally x (ids l)) (start_pairs i g) ∙ ap (tally x) (ids_map (λ (p : Pair). (updated i p).pair) (names_kept i) g.pairs)

start_length : (i : Inputs) (g : Graph) → length (pass_start i g).graph.pairs ≡ length g.pairs
start_length i g = ap (λ (l : List Pair). length l) (start_pairs i g) ∙ length-map g.pairs (λ (p : Pair). (updated i p).pair)

module _ (i : Inputs) (g : Graph) (s : Sound g) where
  pub pass : Passed (pass_bits i g) (pass_start i g) (pass_end i g)
  pass = passed (pass_bits i g) (pass_start i g) (λ x. omega (arith, at_most g s x, start_tally i g x))

  pub bits : (k : ℕ) (o : Option Pair) → find k g.pairs ≡ o → tally k (pass_bits i g) ≡ cond (bit_at i o) 1 0
  bits k None e = go (dec_le (suc k) g.capacity)
    where
      go : Dec (k < g.capacity) → tally k (pass_bits i g) ≡ 0
      go (yes l) =
          bits_in g.capacity k 0 (map (updated i) g.pairs) (omega arith) (omega arith)
          ∙ ap (λ (t : Bool). cond t 1 0) (bit_of_find i k g.pairs ∙ ap (bit_at i) e)
      go (no n) = bits_above g.capacity k 0 (map (updated i) g.pairs) (omega arith)
  bits k (Some p) e =
      bits_in g.capacity k 0 (map (updated i) g.pairs) (omega arith)
      (omega (arith, s.fits, within g s k (omega (arith, find_counted k g.pairs p e))))
      ∙ ap (λ (t : Bool). cond t 1 0) (bit_of_find i k g.pairs ∙ ap (bit_at i) e)

  pub end_find : (k : ℕ) (p : Pair) → find k g.pairs ≡ Some p → (t : Bool) → tally k (pass_bits i g) ≡ cond t 1 0 →
      find k (pass_end i g).graph.pairs ≡ outcome_of (updated i p).pair t
  end_find k p e true z = pass.seen k z ∙ ap becoming (start_find i g k ∙ ap (mapped (λ (p : Pair). (updated i p).pair)) e)
  end_find k p e false z = pass.unseen k z ∙ start_find i g k ∙ ap (mapped (λ (p : Pair). (updated i p).pair)) e

  pub end_replayed : (ps : List Pair) (h : Held) (k : ℕ) (p : Pair) → find k g.pairs ≡ Some p → (t : Bool) → tally k (pass_bits i g) ≡ cond t 1 0 →
      replay ps (pass_end i g).changes h k ≡ cond t (replay ps (visit_changes (Some (updated i p).pair)) h k) (h k)
  unfolding replay
  end_replayed ps h k p e true z =
      pass.replayed ps h k z ∙ ap (λ (o : Option Pair). replay ps (visit_changes o) h k) (start_find i g k ∙ ap (mapped (λ (p : Pair). (updated i p).pair)) e)
  end_replayed ps h k p e false z = pass.silent ps h k z

  pub end_none : (k : ℕ) → find k g.pairs ≡ None → find k (pass_end i g).graph.pairs ≡ None
  end_none k e = pass.unseen k (bits k None e) ∙ start_find i g k ∙ ap (mapped (λ (p : Pair). (updated i p).pair)) e

  -- what was found under an id is quiet again
  end_quiet : (k : ℕ) → Quieted (mapped brief (find k (pass_end i g).graph.pairs))
  end_quiet k = go (find k g.pairs) refl
    where
      go : (o : Option Pair) → find k g.pairs ≡ o → Quieted (mapped brief (find k (pass_end i g).graph.pairs))
      go None e = subst (λ (o : Option Pair). Quieted (mapped brief o)) (sym (end_none k e)) tt
      go (Some p) e =
          let t = (updated i p).bit in
          subst Quieted (sym (ap (mapped brief) (end_find k p e t (bits k (Some p) e)) ∙ outcome_of_brief (updated i p).pair t))
          (quieted p (updated i p) (outcome i p) (subst (λ (o : Option Pair). Quieted (mapped brief o)) e (s.quiet k)))

  end_sound : Sound (pass_end i g).graph
  end_sound = record {
    once = λ x l. omega (arith, pass.tallied x, start_tally i g x, s.once x (omega (arith, pass.given)));
    never = λ x l. omega (arith, pass.tallied x, start_tally i g x, s.never x (omega (arith, pass.given)));
    sized = omega (arith, pass.sized, start_length i g, s.sized, pass.given);
    fits = omega (arith, s.fits, pass.given, pass.capacity);
    quiet = end_quiet;
  }

  -- what the replay has of an id is what is to be held of it
  held_none : (h : Held) → Holds g h → (k : ℕ) → find k g.pairs ≡ None →
      replay (after_updates i g) (pass_end i g).changes h k ≡ held_at (pass_end i g).graph.pairs k
  unfolding replay
  held_none h w k e = pass.silent (after_updates i g) h k (bits k None e) ∙ w k ∙ ap (λ (o : Option Pair). held_b (mapped brief o)) (e ∙ sym (end_none k e))

  held_some : (h : Held) → Holds g h → (p : Pair) → names_both (updated i p).pair → keeps_generating i p → find p.names.id g.pairs ≡ Some p →
      replay (after_updates i g) (pass_end i g).changes h p.names.id ≡ held_at (pass_end i g).graph.pairs p.names.id
  held_some h w p b k e =
      let q = (updated i p).pair in
      let t = (updated i p).bit in
      let ps = after_updates i g in
      let z : tally p.names.id (pass_bits i g) ≡ cond t 1 0 = bits p.names.id (Some p) e in
      end_replayed ps h p.names.id p e t z
      ∙ ap (λ (cs : List Change). cond t (replay ps cs h p.names.id) (h p.names.id)) (visit_changes_brief q ∙ ap (changes_for_b (verdict_b (brief q)) (brief q)) (names_kept i p))
      ∙ settled ps h p (updated i p) (outcome i p) (subst (λ (o : Option Pair). Quieted (mapped brief o)) e (s.quiet p.names.id)) b k
      (manifolds_of_find p.names.id ps
      ∙ ap count_at (find_map (λ (p : Pair). (updated i p).pair) (names_kept i) p.names.id g.pairs ∙ ap (mapped (λ (p : Pair). (updated i p).pair)) e))
      (w p.names.id ∙ ap (λ (o : Option Pair). held_b (mapped brief o)) e)
      ∙ ap held_b (sym (outcome_of_brief q t)) ∙ ap (λ (o : Option Pair). held_b (mapped brief o)) (sym (end_find p.names.id p e t z))

  end_held : (h : Held) → Holds g h → ((p : Pair) → Memᴰ p g.pairs → names_both (updated i p).pair × keeps_generating i p) →
      (k : ℕ) → replay (after_updates i g) (pass_end i g).changes h k ≡ held_at (pass_end i g).graph.pairs k
  end_held h w pr k = go (find k g.pairs) refl
    where
      go : (o : Option Pair) → find k g.pairs ≡ o → replay (after_updates i g) (pass_end i g).changes h k ≡ held_at (pass_end i g).graph.pairs k
      go None e = held_none h w k e
      go (Some p) e =
          let n : p.names.id ≡ k = find_id k g.pairs p e in
          let m = pr p (find_mem k g.pairs p e) in
          subst (λ (k : ℕ). replay (after_updates i g) (pass_end i g).changes h k ≡ held_at (pass_end i g).graph.pairs k) n
          (held_some h w p m.0 m.1 (ap (λ (k : ℕ). find k g.pairs) n ∙ e))

-- a step keeps a graph sound; under the provisos, what the replay holds after it is what is to be held
pub step_sound : (i : Inputs) (g : Graph) → Sound g → Sound (plain_step i g).graph
step_sound i g s = subst Sound (sym (step_graph i g)) (end_sound i g s)

pub step_holds : (i : Inputs) (g : Graph) → Sound g → ((p : Pair) → Memᴰ p g.pairs → names_both (updated i p).pair × keeps_generating i p) →
    (h : Held) → Holds g h → Holds (plain_step i g).graph (replay (after_updates i g) (plain_step i g).changes h)
step_holds i g s pr h w k =
    ap (λ (cs : List Change). replay (after_updates i g) cs h k) (step_changes i g) ∙ end_held i g s h w pr k
    ∙ ap (λ (r : Graph). held_at r.pairs k) (sym (step_graph i g))

-- ---- impulses

stripped_brief : (p : Pair) → brief (stripped p) ≡ brief p
unfolding stripped
stripped_brief p = ap (counting (brief p)) (length-map p.manifolds (λ (m : Manifold). with_points m (map stripped_point m.points)))

written_brief : (w : Write) (p : Pair) → brief (pair_written w p) ≡ brief p
written_brief w p = sym (stripped_brief (pair_written w p)) ∙ ap brief (written_kept w p) ∙ stripped_brief p

written_names : (w : Write) (p : Pair) → (pair_written w p).names ≡ p.names
unfolding stripped
written_names w p = ap (λ (q : Pair). q.names) (written_kept w p)

mapped_brief : (w : Write) (o : Option Pair) → mapped brief (mapped (pair_written w) o) ≡ mapped brief o
mapped_brief w None = refl
mapped_brief w (Some p) = ap {B = Option Brief} Some (written_brief w p)

write_find : (w : Write) (ps : List Pair) (k : ℕ) → mapped brief (find k (map (pair_written w) ps)) ≡ mapped brief (find k ps)
write_find w ps k = ap (mapped brief) (find_map (pair_written w) (written_names w) k ps) ∙ mapped_brief w (find k ps)

pub write_sound : (w : Write) (g : Graph) → Sound g → Sound (plain_write w g)
write_sound w g s = record {
  once = λ x l. ap (λ (l : List ℕ). tally x l + tally x g.free) (ids_map (pair_written w) (written_names w) g.pairs) ∙ s.once x l;
  never = λ x l. ap (λ (l : List ℕ). tally x l + tally x g.free) (ids_map (pair_written w) (written_names w) g.pairs) ∙ s.never x l;
  sized = ap (λ (n : ℕ). n + length g.free) (length-map g.pairs (pair_written w)) ∙ s.sized;
  fits = s.fits;
  quiet = λ k. subst Quieted (sym (write_find w g.pairs k)) (s.quiet k);
}

pub write_holds : (w : Write) (g : Graph) (h : Held) → Holds g h → Holds (plain_write w g) h
write_holds w g h e k = e k ∙ ap held_b (sym (write_find w g.pairs k))

pub writes_sound : (ws : List Write) (g : Graph) → Sound g → Sound (plain_writes ws g)
unfolding plain_writes
writes_sound [] g s = s
writes_sound (w ∷ ws) g s = writes_sound ws (plain_write w g) (write_sound w g s)

pub writes_hold : (ws : List Write) (g : Graph) (h : Held) → Holds g h → Holds (plain_writes ws g) h
unfolding plain_writes
writes_hold [] g h e = e
writes_hold (w ∷ ws) g h e = writes_hold ws (plain_write w g) h (write_holds w g h e)

-- ---- additions

abbrev fresh : Addition → ℕ → Pair
fresh a id = record {
  names = record { id = id; collider1 = a.collider1; collider2 = a.collider2; body1 = a.body1; body2 = a.body2 };
  edge = record { touching = false; contact_events = a.contact_events };
  flags = record {
    touching = false;
    disjoint_aabb = false;
    started_touching = false;
    stopped_touching = false;
    generate_constraints = false;
    started_generating = false;
    static1 = false;
    static2 = false;
    modify_contacts = a.modify_contacts;
  };
  manifolds = [];
  count_change = pos 0;
  speculative = a.speculative;
  cache = None;
}

fresh_quiet : (a : Addition) (id : ℕ) → Quiet (brief (fresh a id))
fresh_quiet a id = record { apart = refl; started = refl; stopped = refl; begun = refl; edge = refl; filled = refl }

module _ (a : Addition) (id : ℕ) (ps : List Pair) where
  added_tally : (x : ℕ) → tally x (ids (ps ++ (fresh a id ∷ []))) ≡ tally x (ids ps) + cond (eqb id x) 1 0
  added_tally x = tally_ids_append x ps (fresh a id ∷ []) ∙ ap (λ (n : ℕ). tally x (ids ps) + n) (tally_one x id)

  added_find : (k : ℕ) → find k (ps ++ (fresh a id ∷ [])) ≡ first (find k ps) (cond (eqb id k) (Some (fresh a id)) None)
  unfolding find
  added_find k = find_append k ps (fresh a id ∷ [])

  added_quiet : (k : ℕ) → Quieted (mapped brief (find k ps)) → Quieted (mapped brief (find k (ps ++ (fresh a id ∷ []))))
  added_quiet k q = subst (λ (o : Option Pair). Quieted (mapped brief o)) (sym (added_find k)) (go (find k ps) (eqb id k) q)
    where
      go : (o : Option Pair) (t : Bool) → Quieted (mapped brief o) → Quieted (mapped brief (first o (cond t (Some (fresh a id)) None)))
      go (Some p) t q = q
      go None true q = fresh_quiet a id
      go None false q = q

  added_held : (k : ℕ) → held_at ps k ≡ held_at (ps ++ (fresh a id ∷ [])) k
  added_held k = go (find k ps) (eqb id k) ∙ ap (λ (o : Option Pair). held_b (mapped brief o)) (sym (added_find k))
    where
      go : (o : Option Pair) (t : Bool) → held_b (mapped brief o) ≡ held_b (mapped brief (first o (cond t (Some (fresh a id)) None)))
      go (Some p) t = refl
      go None true = refl
      go None false = refl

-- the id freed last is taken away
tally_last : (x y : ℕ) (ys : List ℕ) → tally x (take (length ys) (y ∷ ys)) + cond (eqb (get_or (y ∷ ys) (length ys) 0) x) 1 0 ≡ tally x (y ∷ ys)
unfolding tally
tally_last x y [] = omega arith
tally_last x y (z ∷ zs) = omega (arith, tally_last x z zs)

abbrev graph_of : ℕ → ℕ → List ℕ → List Pair → Graph
graph_of capacity given free pairs = record { capacity = capacity; given = given; free = free; pairs = pairs }

module _ (a : Addition) (cap given : ℕ) (ps : List Pair) (room : length ps < cap) where
  -- an id never given
  add_new : Sound (graph_of cap given [] ps) → Sound (graph_of cap (suc given) [] (ps ++ (fresh a given ∷ [])))
  unfolding tally
  add_new s = record {
    once = λ x l. at_once x l (eqb given x) (test given x) (added_tally a given ps x);
    never = λ x l. omega (arith, added_tally a given ps x, ap {B = ℕ} (λ (t : Bool). cond t 1 0) (eqb_other given x (λ e. omega arith)), s.never x (omega arith));
    sized = omega (arith, length-append ps (fresh a given ∷ []), s.sized);
    fits = omega (arith, s.sized);
    quiet = λ k. added_quiet a given ps k (s.quiet k);
  }
    where
      at_once : (x : ℕ) → x < suc given → (t : Bool) → Test given x t → tally x (ids (ps ++ (fresh a given ∷ []))) ≡ tally x (ids ps) + cond t 1 0 →
          tally x (ids (ps ++ (fresh a given ∷ []))) + 0 ≡ 1
      at_once x l true (same e) f = omega (arith, s.never x (omega arith))
      at_once x l false (other n) f = omega (arith, s.once x (omega arith))

  -- the id freed last
  add_freed : (y : ℕ) (ys : List ℕ) → Sound (graph_of cap given (y ∷ ys) ps) →
      Sound (graph_of cap given (take (length ys) (y ∷ ys)) (ps ++ (fresh a (get_or (y ∷ ys) (length ys) 0) ∷ [])))
  add_freed y ys s = record {
    once = λ x l. omega (arith, added_tally a (get_or (y ∷ ys) (length ys) 0) ps x, tally_last x y ys, s.once x l);
    never = λ x l. omega (arith, added_tally a (get_or (y ∷ ys) (length ys) 0) ps x, tally_last x y ys, s.never x l);
    sized = omega (arith, length-append ps (fresh a (get_or (y ∷ ys) (length ys) 0) ∷ []), length-take-le (length ys) (y ∷ ys) (omega arith), s.sized);
    fits = s.fits;
    quiet = λ k. added_quiet a (get_or (y ∷ ys) (length ys) 0) ps k (s.quiet k);
  }

  add_on : (free : List ℕ) → Sound (graph_of cap given free ps) → Sound (plain_add a (graph_of cap given free ps))
  unfolding plain_add new_id
  add_on [] s = add_new s
  add_on (y ∷ ys) s =
      let m : length ys ≡ suc (length ys) - 1 = omega arith in
      subst₂ (λ (t : Bool) (m : ℕ). Sound (graph_of cap (cond t (suc given) given) (take m (y ∷ ys)) (ps ++ (fresh a (cond t given (get_or (y ∷ ys) m 0)) ∷ []))))
      (sym (eqb-suc-zero (length ys))) m (add_freed y ys s)

pub add_sound : (a : Addition) (g : Graph) → Sound g → length g.pairs < g.capacity → Sound (plain_add a g)
add_sound a g s room = add_on a g.capacity g.given g.pairs room g.free s

pub add_holds : (a : Addition) (g : Graph) (h : Held) → Holds g h → Holds (plain_add a g) h
unfolding plain_add
add_holds a g h w k = w k ∙ added_held a (new_id g) g.pairs k

-- ---- the run

sound_added : (a : Addition) (g : Graph) (b : Answer) → Sound g → (m : ℕ) → (T (eqb m 0) → length g.pairs < g.capacity) →
    Sound (unless_refused m g (record { graph = plain_add a g; answer = b })).graph
sound_added a g b s zero r = add_sound a g s (r tt)
sound_added a g b s (suc m) r = s

sound_stepped : (i : Inputs) (g : Graph) (b : Answer) → Sound g → (m : ℕ) → Sound (unless_refused m g (record { graph = (plain_step i g).graph; answer = b })).graph
sound_stepped i g b s zero = step_sound i g s
sound_stepped i g b s (suc m) = s

pub holds_added : (a : Addition) (g : Graph) (h : Held) (b : Answer) → Holds g h → (m : ℕ) → Holds (unless_refused m g (record { graph = plain_add a g; answer = b })).graph h
holds_added a g h b w zero = add_holds a g h w
holds_added a g h b w (suc m) = w

holds_stepped : (i : Inputs) (g : Graph) (h : Held) (b : Answer) → Sound g → Holds g h → (m : ℕ) →
    (T (eqb m 0) → (p : Pair) → Memᴰ p g.pairs → names_both (updated i p).pair × keeps_generating i p) →
    Holds (unless_refused m g (record { graph = (plain_step i g).graph; answer = b })).graph (cond (eqb m 0) (replay (after_updates i g) (plain_step i g).changes h) h)
holds_stepped i g h b s w zero pr = step_holds i g s (pr tt) h w
holds_stepped i g h b s w (suc m) pr =
    subst (λ (t : Bool). Holds g (cond t (replay (after_updates i g) (plain_step i g).changes h) h)) (sym (eqb-suc-zero m)) w

-- every entry keeps the graph sound, and, under the provisos, the replay at what is to be held
pub call_sound : (e : Entry) (g : Graph) → Sound g → RoomAt e g → Sound (plain_call e g).graph
unfolding plain_call RoomAt
call_sound (addition r a) g s q = sound_added a g (added (new_id g)) s (r g) q
call_sound (stepping r i) g s q = sound_stepped i g (stepped (plain_step i g)) s (r g)
call_sound (impulses ws) g s q = writes_sound ws g s

pub call_holds : (e : Entry) (g : Graph) (h : Held) → Sound g → Holds g h → ProvisosAt e g → Holds (plain_call e g).graph (replay_entry e g h)
unfolding plain_call replay_entry ProvisosAt
call_holds (addition r a) g h s w p = holds_added a g h (added (new_id g)) w (r g)
call_holds (stepping r i) g h s w p = holds_stepped i g h (stepped (plain_step i g)) s w (r g) p
call_holds (impulses ws) g h s w p = writes_hold ws g h w

-- every graph of a run is sound, whatever the provisos
pub run_sound : (es : List Entry) (g : Graph) → Sound g → Room es g → Sound (plain_graph es g)
unfolding plain_graph Room
run_sound [] g s q = s
run_sound (e ∷ es) g s q = run_sound es (plain_call e g).graph (call_sound e g s q.0) q.1

pub run_holds : (es : List Entry) (g : Graph) (h : Held) → Sound g → Holds g h → Provisos es g → Room es g → Holds (plain_graph es g) (replay_run es g h)
unfolding plain_graph replay_run Provisos Room
run_holds [] g h s w p q = w
run_holds (e ∷ es) g h s w p q =
    run_holds es (plain_call e g).graph (replay_entry e g h) (call_sound e g s q.0) (call_holds e g h s w p.0) p.1 q.1

pub empty_sound : (n : ℕ) → Sound (empty_graph n)
unfolding find tally
empty_sound n = record { once = λ x l. absurd (omega arith); never = λ x l. refl; sized = refl; fits = omega arith; quiet = λ k. tt }

pub empty_holds : (n : ℕ) → Holds (empty_graph n) (λ _. None)
unfolding find
empty_holds n k = refl

-- the replay claim
pub replay_holds : ReplayHolds
replay_holds n es p q id =
    run_holds es (empty_graph n) (λ _. None) (empty_sound n) (empty_holds n) p q id ∙ sym (held_in_at (plain_graph es (empty_graph n)).pairs id)
