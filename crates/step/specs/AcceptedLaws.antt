-- The refusals of a step in their order, what a step that is not refused knows of what it is lent, and that each contact can then be updated. Assumes nothing.
use Rattle.std.specs.Prelude.{ℕ, ◌+◌, ◌*◌, ◌<◌, ◌≡◌, refl, Bool, true, false, cond, not, ◌&&◌, List, length}
use Rattle.std.proofs.Common.{arith, ap, subst, eqb-true}
use Rattle.rows.specs.Laws.{get_d_part}
use Rattle.rule_laws.specs.NumberLaws.{every_at}
use Rattle.words.specs.Words.{word_at}
use Rattle.layout.specs.Body.{bodies_length}
use Rattle.layout.specs.Change.{changes_length}
use Rattle.layout.specs.Collider.{colliders_length}
use Rattle.layout.specs.Event.{events_length}
use Rattle.layout.specs.Proposal.{proposal_count, proposal_manifolds, proposal_size, proposed_manifold_size}
use Rattle.layout.specs.Settings.{settings_length}
use Rattle.layout.specs.Shares.{shares_length}
use Rattle.collider.specs.Range.{settings_fit, colliders_fit, bodies_fit}
use Rattle.contact_graph.specs.CallLaws as call
use Rattle.contact_range.specs.Checked.{Checked}
use Rattle.contact_range.specs.Range.{right_length, in_range, stands}
use Rattle.contact_range.specs.RangeLaws.{first_of_lem, rest_of, stands_found}
use Rattle.contact_range.specs.Recorded.{capacity_of, listed_count, listed_at}
use Rattle.proposals.specs.LoadedLaws as proposal
use Rattle.proposals.specs.Range.{proposal_fits, Proposed}
use Rattle.contact_update.specs.After.{proposal_of}
use Rattle.contact_update.specs.Contact.{ContactReady}
use Rattle.shares.specs.Shares.{shares_fit}
use Rattle.update_pass.specs.Shared.{bits_length}
use Rattle.update_pass.specs.UpdatedAllLaws.{AllReady}
use Rattle.step.specs.Step.{Given, Rows, long, given_long, rows_long, lengths_fit, hooks_fit, rows_in_range, numbers_fit, proposals_fit, step_refusal}

-- what an accepted step knows
pub record Accepted (x : Given) (g : List ℕ) (l : Rows) : Type 0 where
  pub right : right_length g ≡ true
  pub checked : Checked g
  pub setting_words : length x.settings ≡ settings_length
  pub collider_words : length x.colliders ≡ colliders_length
  pub body_words : length x.bodies ≡ bodies_length
  pub proposal_words : length x.proposals ≡ capacity_of g * proposal_size
  pub share_words : length x.shares ≡ shares_length (capacity_of g)
  pub bit_words : length l.bits ≡ bits_length (capacity_of g)
  pub event_words : length l.events ≡ events_length (capacity_of g)
  pub change_words : length l.changes ≡ changes_length (capacity_of g)
  pub distance_words : length l.distances ≡ capacity_of g
  pub settings_fit_lem : settings_fit x.settings ≡ true
  pub colliders_fit_lem : colliders_fit x.colliders ≡ true
  pub bodies_fit_lem : bodies_fit x.bodies ≡ true
  pub proposed : (id : ℕ) → stands g id ≡ true → proposal_fits x.proposals (id * proposal_size) ≡ true
  pub shares : shares_fit x.shares g ≡ true

-- ---- the tests, one by one
pub record GivenWords (x : Given) (capacity : ℕ) : Type 0 where
  pub settings : length x.settings ≡ settings_length
  pub colliders : length x.colliders ≡ colliders_length
  pub bodies : length x.bodies ≡ bodies_length
  pub proposals : length x.proposals ≡ capacity * proposal_size
  pub shares : length x.shares ≡ shares_length capacity

pub given_words : (x : Given) (capacity : ℕ) → given_long x capacity ≡ true → GivenWords x capacity
unfolding given_long
given_words x capacity e =
    let a = long x.settings settings_length in
    let b = long x.colliders colliders_length in
    let c = long x.bodies bodies_length in
    let p = long x.proposals (capacity * proposal_size) in
    let s = long x.shares (shares_length capacity) in
    let e2 = rest_of a (b && (c && (p && s))) e in
    let e3 = rest_of b (c && (p && s)) e2 in
    let e4 = rest_of c (p && s) e3 in
    record {
      settings = eqb-true _ _ (first_of_lem a (b && (c && (p && s))) e);
      colliders = eqb-true _ _ (first_of_lem b (c && (p && s)) e2);
      bodies = eqb-true _ _ (first_of_lem c (p && s) e3);
      proposals = eqb-true _ _ (first_of_lem p s e4);
      shares = eqb-true _ _ (rest_of p s e4);
    }

record RowWords (l : Rows) (capacity : ℕ) : Type 0 where
  bits : length l.bits ≡ bits_length capacity
  events : length l.events ≡ events_length capacity
  changes : length l.changes ≡ changes_length capacity
  distances : length l.distances ≡ capacity

row_words : (l : Rows) (capacity : ℕ) → rows_long l capacity ≡ true → RowWords l capacity
unfolding rows_long
row_words l capacity e =
    let a = long l.bits (bits_length capacity) in
    let b = long l.events (events_length capacity) in
    let c = long l.changes (changes_length capacity) in
    let d = long l.distances capacity in
    let e2 = rest_of a (b && (c && d)) e in
    let e3 = rest_of b (c && d) e2 in
    record {
      bits = eqb-true _ _ (first_of_lem a (b && (c && d)) e);
      events = eqb-true _ _ (first_of_lem b (c && d) e2);
      changes = eqb-true _ _ (first_of_lem c d e3);
      distances = eqb-true _ _ (rest_of c d e3);
    }

pub record NumberTests (x : Given) (g : List ℕ) : Type 0 where
  pub settings : settings_fit x.settings ≡ true
  pub colliders : colliders_fit x.colliders ≡ true
  pub bodies : bodies_fit x.bodies ≡ true
  pub range : in_range g ≡ true

pub number_tests : (x : Given) (g : List ℕ) → numbers_fit x g ≡ true → NumberTests x g
unfolding rows_in_range
number_tests x g e =
    let a = settings_fit x.settings in
    let b = colliders_fit x.colliders in
    let c = bodies_fit x.bodies in
    let d = in_range g in
    let h = hooks_fit x.proposals g in
    let e2 = rest_of a (b && (c && (d && h))) e in
    let e3 = rest_of b (c && (d && h)) e2 in
    record {
      settings = first_of_lem a (b && (c && (d && h))) e;
      colliders = first_of_lem b (c && (d && h)) e2;
      bodies = first_of_lem c (d && h) e3;
      range = first_of_lem d h (rest_of c (d && h) e3);
    }

-- the proposal of each contact that stands
fits_standing : (proposals g : List ℕ) → proposals_fit proposals g ≡ true → (id : ℕ) → stands g id ≡ true → proposal_fits proposals (id * proposal_size) ≡ true
unfolding proposals_fit
fits_standing proposals g e id s =
    let f = stands_found g id s in
    subst (λ (i : ℕ). proposal_fits proposals (i * proposal_size) ≡ true) f.2
    (every_at (λ p. proposal_fits proposals (listed_at g p * proposal_size)) (listed_count g) f.0 e f.1)

-- ---- the refusals in their order
module _ (x : Given) (g : List ℕ) (l : Rows) where
  pub refused_lengths : lengths_fit x g l ≡ false → step_refusal x g l ≡ 1
  unfolding step_refusal
  refused_lengths a = rw a

  pub refused_numbers : lengths_fit x g l ≡ true → numbers_fit x g ≡ false → step_refusal x g l ≡ 2
  unfolding step_refusal
  refused_numbers a b = rw (a, b)

  pub refused_proposals : lengths_fit x g l ≡ true → numbers_fit x g ≡ true → proposals_fit x.proposals g ≡ false → step_refusal x g l ≡ 6
  unfolding step_refusal
  refused_proposals a b c = rw (a, b, c)

  pub refused_shares : lengths_fit x g l ≡ true → numbers_fit x g ≡ true → proposals_fit x.proposals g ≡ true → shares_fit x.shares g ≡ false → step_refusal x g l ≡ 7
  unfolding step_refusal
  refused_shares a b c d = rw (a, b, c, d)

  pub accepted_all : lengths_fit x g l ≡ true → numbers_fit x g ≡ true → proposals_fit x.proposals g ≡ true → shares_fit x.shares g ≡ true → step_refusal x g l ≡ 0
  unfolding step_refusal
  accepted_all a b c d = rw (a, b, c, d)

-- the first of the four that does not hold, and none
abbrev first_of : Bool → Bool → Bool → Bool → ℕ
first_of a b c d = cond (not a) 1 (cond (not b) 2 (cond (not c) 6 (cond (not d) 7 0)))

none_refused : (a b c d : Bool) → first_of a b c d ≡ 0 → (a ≡ true) × (b ≡ true) × (c ≡ true) × (d ≡ true)
none_refused false b c d e = absurd (omega arith)
none_refused true false c d e = absurd (omega arith)
none_refused true true false d e = absurd (omega arith)
none_refused true true true false e = absurd (omega arith)
none_refused true true true true e = (refl, refl, refl, refl)

accepted_tests : (x : Given) (g : List ℕ) (l : Rows) → step_refusal x g l ≡ 0
    → (lengths_fit x g l ≡ true) × (numbers_fit x g ≡ true) × (proposals_fit x.proposals g ≡ true) × (shares_fit x.shares g ≡ true)
unfolding step_refusal
accepted_tests x g l e = none_refused (lengths_fit x g l) (numbers_fit x g) (proposals_fit x.proposals g) (shares_fit x.shares g) e

length_tests : (x : Given) (g : List ℕ) (l : Rows) → lengths_fit x g l ≡ true → (right_length g ≡ true) × (given_long x (capacity_of g) ≡ true) × (rows_long l (capacity_of g) ≡ true)
unfolding lengths_fit
length_tests x g l e =
    let a = right_length g in
    let b = given_long x (capacity_of g) in
    let c = rows_long l (capacity_of g) in
    let r = rest_of a (b && c) e in
    (first_of_lem a (b && c) e, first_of_lem b c r, rest_of b c r)

pub accepted : (x : Given) (g : List ℕ) (l : Rows) → step_refusal x g l ≡ 0 → Accepted x g l
accepted x g l e =
    let t = accepted_tests x g l e in
    let lengths = length_tests x g l t.0 in
    let given = given_words x (capacity_of g) lengths.1 in
    let rows = row_words l (capacity_of g) lengths.2 in
    let numbers = number_tests x g t.1 in
    record {
      right = lengths.0;
      checked = call.checked lengths.0 numbers.range;
      setting_words = given.settings;
      collider_words = given.colliders;
      body_words = given.bodies;
      proposal_words = given.proposals;
      share_words = given.shares;
      bit_words = rows.bits;
      event_words = rows.events;
      change_words = rows.changes;
      distance_words = rows.distances;
      settings_fit_lem = numbers.settings;
      colliders_fit_lem = numbers.colliders;
      bodies_fit_lem = numbers.bodies;
      proposed = fits_standing x.proposals g t.2;
      shares = t.3;
    }

-- ---- each contact can be updated
-- a proposal that fits, by itself
own_proposed : (proposals : List ℕ) (id : ℕ) → Proposed proposals (id * proposal_size) → Proposed (proposal_of proposals id) 0
own_proposed proposals id p =
    let at = id * proposal_size in
    let word : (i : ℕ) → i < proposal_size → word_at (proposal_of proposals id) i ≡ word_at proposals (at + i) = λ i b. get_d_part proposals at proposal_size i 0 b in
    let count = word proposal_count (omega arith) in
    let few = p.manifolds in
    record {
      manifolds = omega arith;
      points =
          λ k b. let e = word (proposal_manifolds + k * proposed_manifold_size) (omega arith) in
          let f = p.points k (omega arith) in
          let s : word_at proposals (at + (proposal_manifolds + k * proposed_manifold_size)) ≡ word_at proposals (at + proposal_manifolds + k * proposed_manifold_size) = ap (word_at proposals) (omega arith) in
          omega arith;
    }

pub all_ready : {x : Given} {g : List ℕ} {l : Rows} → Accepted x g l → AllReady x.colliders x.bodies x.proposals g
all_ready {x} {g} a = record { each = ready; checked = a.checked }
  where
    ready : (id : ℕ) → stands g id ≡ true → ContactReady x.colliders x.bodies x.proposals g id
    ready id s =
        record {
          collider_words = a.collider_words;
          body_words = a.body_words;
          proposal_words = a.proposal_words;
          colliders_fit_lem = a.colliders_fit_lem;
          proposed = own_proposed x.proposals id (proposal.proposed (a.proposed id s));
          checked = a.checked;
          standing = s;
        }
