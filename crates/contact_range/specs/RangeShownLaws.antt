-- The way back: a graph is of the right length, or in range, where each condition holds at each place. Assumes nothing.
use Rattle.std.specs.Prelude.{◌≡◌, ℕ, ◌+◌, ◌*◌, ◌<◌, Bool, true, false, ◌||◌, List, ◌⊎◌, T, leb}
use Rattle.std.proofs.Math.Path.{ap}
use Rattle.std.proofs.Math.Bool.{not, or-true}
use Rattle.std.proofs.Common.{inl, inr}
use borrow.Author.Tests.{lt-ltb, le-leb, eq-eqb, ne_eqb}
use Rattle.rules.specs.Limits.{stored_points, pair_manifolds, colliders, bodies, most_contacts}
use Rattle.rule_laws.specs.NumberLaws.{every_all}
use Rattle.words.specs.Words.{word_at}
use Rattle.layout.specs.Contact.{contact_body1, contact_body2, contact_cache, contact_edge_flags, contact_manifolds, marks_size}
use Rattle.layout.specs.Manifold.{manifold_size}
use Rattle.contact_range.specs.Recorded.{capacity_of, given_of, listed_count, free_count, listed_at, free_at, contact_at}
use Rattle.contact_range.specs.Range.{right_length, is_mark, optional_fits, names_fit, marks_fit, manifolds_fit, contact_fits, counts_fit, listed_given, names_back, contacts_fit, free_given, free_once, stands, is_free, free_apart, given_known, same_pair, pairs_once, InRange}
use Rattle.contact_range.specs.RangeLaws.{holds, shown, Fitting}
use Rattle.contact_range.specs.Conditions.{RightLength, Counts, index_at}

pub right_length_test : {g : List ℕ} → RightLength g → right_length g ≡ true
unfolding right_length
right_length_test {g} r = rw (lt-ltb 0 (capacity_of g) r.least, le-leb (capacity_of g) most_contacts r.most) (eq-eqb _ _ r.size)

-- ---- one contact's record
-- a mark of 0, and a mark of 1 with a number below the limit
pub optional_none : (limit : ℕ) (g : List ℕ) (at : ℕ) → word_at g at ≡ 0 → T (optional_fits limit g at)
optional_none limit g at e = rw e tt

pub optional_some : (limit : ℕ) (g : List ℕ) (at : ℕ) → word_at g at ≡ 1 → word_at g (at + 1) < limit → T (optional_fits limit g at)
optional_some limit g at e h = rw e (shown (lt-ltb (word_at g (at + 1)) limit h))

pub fitting_test : {g : List ℕ} {at : ℕ} → Fitting g at → contact_fits g at ≡ true
unfolding contact_fits names_fit marks_fit manifolds_fit
fitting_test {g} {at} f =
    let n = at + contact_manifolds in
    let points : ℕ → ℕ = λ k. word_at g (n + 1 + k * manifold_size) in
    rw (
      lt-ltb (word_at g at) colliders f.collider1,
      lt-ltb (word_at g (at + 1)) colliders f.collider2,
      holds (optional_fits bodies g (at + contact_body1)) f.body1,
      holds (optional_fits bodies g (at + contact_body2)) f.body2,
      every_all (λ k. is_mark (word_at g (at + contact_edge_flags + k))) marks_size (λ k h. lt-ltb _ _ (f.marks k h)),
      lt-ltb (word_at g (at + contact_cache)) 2 f.cache,
      le-leb (word_at g n) pair_manifolds f.manifolds,
    ) (every_all (λ k. leb (points k) stored_points) (word_at g n) (λ k h. le-leb (points k) stored_points (f.points k h)))

-- ---- the graph, place by place
pub record EachInRange (g : List ℕ) : Type 0 where
  pub counts : Counts g
  pub given : (p : ℕ) → p < listed_count g → listed_at g p < given_of g
  pub back : (p : ℕ) → p < listed_count g → index_at g (listed_at g p) ≡ p
  pub contacts : (p : ℕ) → p < listed_count g → Fitting g (contact_at g (listed_at g p))
  pub freed : (k : ℕ) → k < free_count g → free_at g k < given_of g
  pub once : (j k : ℕ) → j < k → k < free_count g → free_at g j ≡ free_at g k → ⊥
  pub apart : (k : ℕ) → k < free_count g → stands g (free_at g k) ≡ false
  pub known : (id : ℕ) → id < given_of g → (stands g id ≡ true) ⊎ (is_free g id ≡ true)
  pub pairs : (p q : ℕ) → p < q → q < listed_count g → same_pair g p q ≡ false

counts_test : {g : List ℕ} → Counts g → counts_fit g ≡ true
unfolding counts_fit
counts_test {g} c = rw (le-leb (given_of g) (capacity_of g) c.given, le-leb (listed_count g) (capacity_of g) c.listed, le-leb (free_count g) (capacity_of g) c.freed)

known_or : (a b : Bool) → (a ≡ true) ⊎ (b ≡ true) → a || b ≡ true
known_or a b (inl e) = rw e
known_or a b (inr e) = rw e (or-true a)

module _ {g : List ℕ} (r : EachInRange g) where
  given_all : listed_given g ≡ true
  unfolding listed_given
  given_all = every_all _ (listed_count g) (λ p h. lt-ltb (listed_at g p) (given_of g) (r.given p h))

  back_all : names_back g ≡ true
  unfolding names_back
  back_all = every_all _ (listed_count g) (λ p h. eq-eqb (index_at g (listed_at g p)) p (r.back p h))

  contacts_all : contacts_fit g ≡ true
  unfolding contacts_fit
  contacts_all = every_all _ (listed_count g) (λ p h. fitting_test (r.contacts p h))

  freed_all : free_given g ≡ true
  unfolding free_given
  freed_all = every_all _ (free_count g) (λ k h. lt-ltb (free_at g k) (given_of g) (r.freed k h))

  once_all : free_once g ≡ true
  unfolding free_once
  once_all = every_all _ (free_count g) (λ k h. every_all _ k (λ j l. ap not (ne_eqb (free_at g j) (free_at g k) (r.once j k l h))))

  apart_all : free_apart g ≡ true
  unfolding free_apart
  apart_all = every_all _ (free_count g) (λ k h. ap not (r.apart k h))

  known_all : given_known g ≡ true
  unfolding given_known
  known_all = every_all _ (given_of g) (λ id h. known_or (stands g id) (is_free g id) (r.known id h))

  pairs_all : pairs_once g ≡ true
  unfolding pairs_once
  pairs_all = every_all _ (listed_count g) (λ p h. every_all _ p (λ q l. ap not (r.pairs q p l h)))

  pub each_in_range : InRange g
  each_in_range =
      record {
        counts = shown (counts_test r.counts);
        given = shown given_all;
        back = shown back_all;
        contacts = shown contacts_all;
        freed = shown freed_all;
        once = shown once_all;
        apart = shown apart_all;
        known = shown known_all;
        pairs = shown pairs_all;
      }
