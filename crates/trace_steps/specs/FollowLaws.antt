-- The row and the counts follow a pair's proposal, line by line. Assumes nothing.
use Rattle.std.specs.Prelude.{ℕ, ◌+◌, ◌*◌, ◌≤◌, ◌<◌, ◌≡◌, Bool, eqb, ltb, drop, Option, None, Some}
use Rattle.std.proofs.Common.{arith, ◌∙◌, length-append}
use Rattle.std.proofs.Math.Path.{refl, sym, ap, subst}
use Rattle.std.proofs.Math.Bool.{true, false, cond}
use mathlib.Core.List.{List, [], ◌∷◌, ◌++◌, append-nil}
use borrow.Author.Tests.{eqb-true, ltb-true, ltb-false, leb-true, leb-false, lt-ltb, le-ltb}
use Rattle.std.proofs.Math.Dec.{leb}
use Rattle.std.proofs.Math.ListN.{length, length-drop}
use Rattle.rows.specs.Rows.{part, put, each}
use Rattle.rows.specs.EachLaws.{each_append}
use Rattle.rules.specs.Limits.{pair_manifolds, proposed_points}
use Rattle.words.specs.Words.{word_at}
use Rattle.layout.specs.Proposal.{proposal_hook, proposal_count, proposed_manifold_points, proposed_point_size}
use Rattle.contact_range.specs.Range.{same_colliders}
use Rattle.trace_lines.specs.Widths.{width_of}
use Rattle.trace_rules.specs.Fields.{Line, hook_letter, manifold_letter, point_letter}
use Rattle.trace_rules.specs.Records.{word_of, Manifold, Proposing, at_most_one, proposed, of_pair, new_manifold, with_point, proposing_after}
use Rattle.trace_rules.specs.Play.{counted, manifold_words, proposal_words}
use Rattle.trace_steps.specs.declared.proposal.Counts.{Counts}
use Rattle.trace_steps.specs.Lines.{Held, raised, of_pair_at, line_answer, line_normal, normal_size, manifold_place, manifold_stored, point_stored, Progress, hook_taken, manifold_taken, point_joined, point_taken, line_taken}
use Rattle.trace_steps.specs.LineLaws.{held_word, held_rest}
use Rattle.trace_steps.specs.ProposalLaws.{counted_few, counted_many, raised_counted, placed, proposal, proposal_hook_lem, proposal_more, before_last, last_apart, pointed, counted_more, point_past, point_room}

-- where the counts are past a limit
counted_past : (limit n : ℕ) → limit ≤ n → limit ≤ counted limit n
counted_past limit n h = go (leb n limit) refl
  where
    go : (b : Bool) → leb n limit ≡ b → limit ≤ counted limit n
    go true t = omega (arith, counted_few limit n (leb-true n limit t))
    go false t = omega (arith, counted_many limit n (leb-false n limit t))

-- ---- what the counts say of the manifold that points join: manifold k
pub record Joined (k : ℕ) (m : Manifold) (c : Counts) : Type 0 where
  pub last : c.last ≡ Some (counted pair_manifolds k)
  pub points : c.points ≡ counted proposed_points (length m.points)
  pub normal : length m.normal ≡ 3
  pub sizes : length (each (λ p. p) m.points) ≡ length m.points * proposed_point_size

abbrev pub LastFollows : ℕ → Option Manifold → Counts → Type 0
LastFollows k None c = c.last ≡ None
LastFollows k (Some m) c = Joined k m c

pub record Follows (s : Proposing) (p : Progress) : Type 0 where
  pub row : p.row ≡ proposal_words (proposed s)
  pub manifolds : p.counts.manifolds ≡ counted pair_manifolds (length (s.closed ++ at_most_one s.last))
  pub last : LastFollows (length s.closed) s.last p.counts

-- ---- a hook line
module _ {s : Proposing} {p : Progress} (f : Follows s p) where
  follows_hook : (k : ℕ) → Follows (record { hook = k; closed = s.closed; last = s.last }) (record { row = put p.row proposal_hook (k ∷ []); counts = p.counts })
  follows_hook k =
      record {
        row = ap (λ (xs : List ℕ). put xs proposal_hook (k ∷ [])) f.row ∙ proposal_hook_lem s.hook k (s.closed ++ at_most_one s.last);
        manifolds = f.manifolds;
        last = f.last;
      }

  -- ---- a manifold of another pair: points join none
  follows_other : Follows (record { hook = s.hook; closed = s.closed ++ at_most_one s.last; last = None }) (record { row = p.row; counts = record { manifolds = p.counts.manifolds; last = None; points = 0 } })
  follows_other =
      let e = append-nil (s.closed ++ at_most_one s.last) in
      record {
        row = f.row ∙ ap (λ (ms : List Manifold). proposal_words (proposal s.hook ms)) (sym e);
        manifolds = f.manifolds ∙ ap (λ (ms : List Manifold). counted pair_manifolds (length ms)) (sym e);
        last = refl;
      }

  -- ---- a manifold of the pair
  module _ (ws normal : List ℕ) (words : part ws line_normal normal_size ≡ normal) where
    abbrev ms : List Manifold
    ms = s.closed ++ at_most_one s.last

    abbrev new : Manifold
    new = record { normal = normal; points = [] }

    new_words_lem : 0 ∷ part ws line_normal normal_size ≡ manifold_words new
    unfolding manifold_words
    new_words_lem = ap (λ (vs : List ℕ). 0 ∷ vs) (words ∙ sym (append-nil normal))

    more : raised pair_manifolds p.counts.manifolds ≡ counted pair_manifolds (length ms + 1)
    more = ap (raised pair_manifolds) f.manifolds ∙ raised_counted pair_manifolds (length ms)

    -- the row as the code has it, where the number of manifolds is n
    stored : (b : Bool) → ltb (length ms) pair_manifolds ≡ b → manifold_stored p.counts.manifolds ws p.row ≡ placed (put (proposal_words (proposed s)) proposal_count (counted pair_manifolds (length ms + 1) ∷ [])) (length ms) new
    unfolding manifold_stored
    stored true e =
        let h = ltb-true (length ms) pair_manifolds e in
        let n : p.counts.manifolds ≡ length ms = f.manifolds ∙ counted_few pair_manifolds (length ms) (omega arith) in
        (λ i. cond (ltb (n i) pair_manifolds) (put (put (f.row i) proposal_count (more i ∷ [])) (manifold_place (n i)) (new_words_lem i)) (put (f.row i) proposal_count (more i ∷ [])))
    stored false e =
        let h = ltb-false (length ms) pair_manifolds e in
        let big : pair_manifolds ≤ counted pair_manifolds (length ms) = counted_past pair_manifolds (length ms) h in
        ap (λ (b : Bool). cond b (put (put p.row proposal_count (raised pair_manifolds p.counts.manifolds ∷ [])) (manifold_place p.counts.manifolds) (0 ∷ part ws line_normal normal_size)) (put p.row proposal_count (raised pair_manifolds p.counts.manifolds ∷ [])))
        (le-ltb p.counts.manifolds pair_manifolds (omega (arith, f.manifolds)))
        ∙ (λ i. put (f.row i) proposal_count (more i ∷ []))
        ∙ ap (λ (b : Bool). cond b (put (put (proposal_words (proposed s)) proposal_count (counted pair_manifolds (length ms + 1) ∷ [])) (manifold_place (length ms)) (manifold_words new)) (put (proposal_words (proposed s)) proposal_count (counted pair_manifolds (length ms + 1) ∷ [])))
        (sym e)

    follows_manifold : length normal ≡ 3
        → Follows (record { hook = s.hook; closed = ms; last = Some new })
        (record { row = manifold_stored p.counts.manifolds ws p.row; counts = record { manifolds = raised pair_manifolds p.counts.manifolds; last = Some p.counts.manifolds; points = 0 } })
    follows_manifold three =
        record {
          row = stored (ltb (length ms) pair_manifolds) refl ∙ proposal_more s.hook ms new;
          manifolds = more ∙ ap (counted pair_manifolds) (sym (length-append ms (new ∷ [])));
          last = record { last = ap Some f.manifolds; points = refl; normal = three; sizes = refl };
        }

-- ---- a point
module _ {hook : ℕ} {closed : List Manifold} {m : Manifold} {p : Progress} (f : Follows (record { hook = hook; closed = closed; last = Some m }) p) (ws point : List ℕ) (words : part ws 0 proposed_point_size ≡ point) where
  abbrev k : ℕ
  k = length closed

  abbrev at : ℕ
  at = manifold_place k

  abbrev then : Manifold
  then = pointed m point

  -- the words before the manifold
  abbrev row : List ℕ
  row = before_last hook closed

  -- the manifold's number, past the limit the next one
  abbrev n : ℕ
  n = counted pair_manifolds k

  -- what the code stores: the count, and behind it the point
  abbrev place : ℕ
  place = manifold_place n

  abbrev count_stored : List ℕ
  count_stored = put p.row place (raised proposed_points p.counts.points ∷ [])

  abbrev both_stored : List ℕ
  both_stored = put count_stored (place + proposed_manifold_points + p.counts.points * proposed_point_size) (part ws 0 proposed_point_size)

  points_more : raised proposed_points p.counts.points ≡ counted proposed_points (length m.points + 1)
  points_more = ap (raised proposed_points) f.last.points ∙ raised_counted proposed_points (length m.points)

  -- the words as they are, where the manifold has a place
  module _ (room : k < pair_manifolds) where
    number : n ≡ k
    number = counted_few pair_manifolds k (omega arith)

    now_at : p.row ≡ put row at (manifold_words m)
    now_at = f.row ∙ last_apart hook closed m ∙ ap (λ (b : Bool). cond b (put row at (manifold_words m)) row) (lt-ltb k pair_manifolds room)

    then_at : put row at (manifold_words then) ≡ proposal_words (proposal hook (closed ++ then ∷ []))
    then_at = ap (λ (b : Bool). cond b (put row at (manifold_words then)) row) (sym (lt-ltb k pair_manifolds room)) ∙ sym (last_apart hook closed then)

    place_of_last : place ≡ at
    place_of_last = ap manifold_place number

    counted_at : count_stored ≡ put (put row at (manifold_words m)) at (counted proposed_points (length m.points + 1) ∷ [])
    counted_at = λ i. put (now_at i) (place_of_last i) (points_more i ∷ [])

    point_kept : (b : Bool) → ltb (length m.points) proposed_points ≡ b
        → cond (ltb p.counts.points proposed_points)
        both_stored
        count_stored
        ≡ put row at (manifold_words then)
    point_kept true e =
        let few = ltb-true (length m.points) proposed_points e in
        let c : p.counts.points ≡ length m.points = f.last.points ∙ counted_few proposed_points (length m.points) (omega arith) in
        ap (λ (b : Bool). cond b
        both_stored
        count_stored)
        (lt-ltb p.counts.points proposed_points (omega arith))
        ∙ (λ i. put (counted_at i) (place_of_last i + proposed_manifold_points + c i * proposed_point_size) (words i))
        ∙ point_room row at m point few f.last.normal f.last.sizes
    point_kept false e =
        let full = ltb-false (length m.points) proposed_points e in
        ap (λ (b : Bool). cond b
        both_stored
        count_stored)
        (le-ltb p.counts.points proposed_points (omega (arith, f.last.points, counted_past proposed_points (length m.points) full)))
        ∙ counted_at ∙ point_past row at m point full

    stored_here : point_stored n p.counts.points ws p.row ≡ proposal_words (proposal hook (closed ++ then ∷ []))
    unfolding point_stored
    stored_here =
        ap (λ (b : Bool). cond b (cond (ltb p.counts.points proposed_points)
        both_stored
        count_stored) p.row)
        (lt-ltb n pair_manifolds (omega (arith, number)))
        ∙ point_kept (ltb (length m.points) proposed_points) refl ∙ then_at

  -- and where it has none
  stored_nowhere : pair_manifolds ≤ k → point_stored n p.counts.points ws p.row ≡ proposal_words (proposal hook (closed ++ then ∷ []))
  unfolding point_stored
  stored_nowhere h =
      ap (λ (b : Bool). cond b (cond (ltb p.counts.points proposed_points)
      both_stored
      count_stored) p.row)
      (le-ltb n pair_manifolds (counted_past pair_manifolds k h))
      ∙ f.row ∙ last_apart hook closed m
      ∙ ap (λ (b : Bool). cond b (put row at (manifold_words m)) row) (le-ltb k pair_manifolds h)
      ∙ ap (λ (b : Bool). cond b (put row at (manifold_words then)) row) (sym (le-ltb k pair_manifolds h))
      ∙ sym (last_apart hook closed then)

  point_stored_lem : point_stored n p.counts.points ws p.row ≡ proposal_words (proposal hook (closed ++ then ∷ []))
  point_stored_lem = go (ltb k pair_manifolds) refl
    where
      go : (b : Bool) → ltb k pair_manifolds ≡ b → point_stored n p.counts.points ws p.row ≡ proposal_words (proposal hook (closed ++ then ∷ []))
      go true e = stored_here (ltb-true k pair_manifolds e)
      go false e = stored_nowhere (ltb-false k pair_manifolds e)

  follows_point : length point ≡ proposed_point_size
      → Follows (record { hook = hook; closed = closed; last = Some then })
      (record { row = point_stored n p.counts.points ws p.row; counts = record { manifolds = p.counts.manifolds; last = Some n; points = raised proposed_points p.counts.points } })
  follows_point twelve =
      record {
        row = point_stored_lem;
        manifolds = f.manifolds ∙ ap (counted pair_manifolds) (length-append closed (m ∷ []) ∙ sym (length-append closed (then ∷ [])));
        last = record {
          last = refl;
          points = points_more ∙ sym (counted_more row at m point);
          normal = f.last.normal;
          sizes =
              ap length (each_append (λ (q : List ℕ). q) m.points (point ∷ []) ∙ ap (λ (vs : List ℕ). each (λ (q : List ℕ). q) m.points ++ vs) (append-nil point))
              ∙ length-append (each (λ q. q) m.points) point ∙ omega (arith, f.last.sizes, length-append m.points (point ∷ []));
        };
      }

-- ---- a line
module _ (a b : ℕ) {s : Proposing} {p : Progress} (f : Follows s p) {ws : List ℕ} {l : Line} (h : Held ws l) where
  same_pair_lem : 1 < length l.words → of_pair_at a b ws ≡ of_pair a b l
  same_pair_lem n = λ i. same_colliders a b (held_word h 0 (omega arith) i) (held_word h 1 n i)

  hook_follows : l.letter ≡ hook_letter
      → Follows (cond (of_pair a b l) (record { hook = word_of l 2; closed = s.closed; last = s.last }) s) (record { row = hook_taken a b ws p.row; counts = p.counts })
  unfolding hook_taken width_of
  hook_follows e =
      let n : length l.words ≡ 3 = h.width ∙ ap width_of e in
      subst (λ (x : Bool). Follows (cond (of_pair a b l) (record { hook = word_of l 2; closed = s.closed; last = s.last }) s) (record { row = cond x (put p.row proposal_hook (word_at ws line_answer ∷ [])) p.row; counts = p.counts }))
      (sym (same_pair_lem (omega arith))) (go (of_pair a b l) (held_word h 2 (omega arith)))
    where
      go : (x : Bool) → word_at ws line_answer ≡ word_of l 2
          → Follows (cond x (record { hook = word_of l 2; closed = s.closed; last = s.last }) s) (record { row = cond x (put p.row proposal_hook (word_at ws line_answer ∷ [])) p.row; counts = p.counts })
      go true w = subst (λ (k : ℕ). Follows (record { hook = k; closed = s.closed; last = s.last }) (record { row = put p.row proposal_hook (word_at ws line_answer ∷ []); counts = p.counts })) w (follows_hook f (word_at ws line_answer))
      go false w = f

  manifold_follows : l.letter ≡ manifold_letter
      → Follows (record { hook = s.hook; closed = s.closed ++ at_most_one s.last; last = cond (of_pair a b l) (Some (new_manifold l)) None }) (manifold_taken a b ws p)
  unfolding manifold_taken width_of
  manifold_follows e =
      let n : length l.words ≡ 5 = h.width ∙ ap width_of e in
      subst (λ (x : Bool). Follows (record { hook = s.hook; closed = s.closed ++ at_most_one s.last; last = cond (of_pair a b l) (Some (new_manifold l)) None }) (cond x own other))
      (sym (same_pair_lem (omega arith))) (go (of_pair a b l) (held_rest h 2 3 (omega arith)) (omega (arith, length-drop 2 l.words)))
    where
      own : Progress
      own = record { row = manifold_stored p.counts.manifolds ws p.row; counts = record { manifolds = raised pair_manifolds p.counts.manifolds; last = Some p.counts.manifolds; points = 0 } }

      other : Progress
      other = record { row = p.row; counts = record { manifolds = p.counts.manifolds; last = None; points = 0 } }

      go : (x : Bool) → part ws line_normal normal_size ≡ drop 2 l.words → length (drop 2 l.words) ≡ 3
          → Follows (record { hook = s.hook; closed = s.closed ++ at_most_one s.last; last = cond x (Some (new_manifold l)) None }) (cond x own other)
      go true w three = follows_manifold f ws (drop 2 l.words) w three
      go false w three = follows_other f

-- by whether points join a manifold
point_follows : (hook : ℕ) (closed : List Manifold) (last : Option Manifold) {p : Progress} → Follows (record { hook = hook; closed = closed; last = last }) p → {ws : List ℕ} {l : Line} → Held ws l → l.letter ≡ point_letter
    → Follows (record { hook = hook; closed = closed; last = with_point last l }) (point_taken ws p)
unfolding point_taken width_of
point_follows hook closed None {p} f {ws} {l} h e = subst (λ (o : Option ℕ). Follows (record { hook = hook; closed = closed; last = None }) (point_joined o ws p)) (sym f.last) f
point_follows hook closed (Some m) {p} f {ws} {l} h e =
    let n : length l.words ≡ proposed_point_size = h.width ∙ ap width_of e in
    subst (λ (o : Option ℕ). Follows (record { hook = hook; closed = closed; last = Some (pointed m l.words) }) (point_joined o ws p)) (sym f.last.last)
    (follows_point f ws l.words (held_rest h 0 proposed_point_size (omega arith)) n)

pub line_follows : (a b : ℕ) {s : Proposing} {p : Progress} {ws : List ℕ} {l : Line} → Follows s p → Held ws l → Follows (proposing_after a b s l) (line_taken a b l.letter ws p)
unfolding proposing_after line_taken
line_follows a b {s} {p} {ws} {l} f h = pick (eqb l.letter hook_letter) (eqb l.letter manifold_letter) (eqb l.letter point_letter) refl refl refl
  where
    pick : (x y z : Bool) → eqb l.letter hook_letter ≡ x → eqb l.letter manifold_letter ≡ y → eqb l.letter point_letter ≡ z
        → Follows
        (cond x (cond (of_pair a b l) (record { hook = word_of l 2; closed = s.closed; last = s.last }) s)
        (cond y (record { hook = s.hook; closed = s.closed ++ at_most_one s.last; last = cond (of_pair a b l) (Some (new_manifold l)) None })
        (cond z (record { hook = s.hook; closed = s.closed; last = with_point s.last l }) s)))
        (cond x (record { row = hook_taken a b ws p.row; counts = p.counts }) (cond y (manifold_taken a b ws p) (cond z (point_taken ws p) p)))
    pick true y z d e g = hook_follows a b f h (eqb-true l.letter hook_letter d)
    pick false true z d e g = manifold_follows a b f h (eqb-true l.letter manifold_letter e)
    pick false false true d e g = point_follows s.hook s.closed s.last f h (eqb-true l.letter point_letter g)
    pick false false false d e g = f
