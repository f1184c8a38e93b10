-- The words of a contact that was just added: twenty of the addition, and zeros. Assumes nothing.
use Rattle.std.specs.Prelude.{◌≡◌, refl, ℕ, zero, suc, ◌+◌, List, [], ◌∷◌, ◌++◌, length, Option, None, Some}
use Rattle.std.proofs.Common.{sym, ap, ◌∙◌, zero-add, suc-add, arith, lit≤, lit<, length-append}
use Rattle.math.specs.Fit.{FitFloat}
use Rattle.rows.specs.Rows.{put}
use Rattle.rows.specs.Laws.{put_next}
use Rattle.rules.specs.Graph.{Addition, new_pair}
use Rattle.manifold_records.specs.ListLaws.{padded_is}
use Rattle.manifold_records.specs.Written.{zeros, padded, manifolds_words}
use Rattle.contact_records.specs.Fit.{FitPair}
use Rattle.contact_records.specs.LengthLaws.{length_optional}
use Rattle.contact_records.specs.Written.{optional_words, int_word, flags_words, cache_words, names_words, edge_words, state_words, contact_words, new_contact_words}

pub zeros_add : (n m : ℕ) → zeros n ++ zeros m ≡ zeros (n + m)
unfolding zeros
zeros_add zero m = ap zeros (sym (zero-add m))
zeros_add (suc n) m = ap (λ (r : List ℕ). 0 ∷ r) (zeros_add n m) ∙ ap zeros (sym (suc-add n m))

-- no cache, and no manifolds
nothing : zeros 16 ++ (0 ∷ padded 486 []) ≡ zeros 503
unfolding zeros
nothing = ap (λ (r : List ℕ). zeros 16 ++ (0 ∷ r)) (padded_is 486 [] (lit≤ tt)) ∙ one ∙ zeros_add 16 487
  where
    one : zeros 16 ++ (0 ∷ zeros 486) ≡ zeros 16 ++ zeros 487
    one = refl

pub new_contact : (index id : ℕ) (a : Addition) → contact_words index (new_pair id a) ≡ new_contact_words index a ++ zeros 503
unfolding contact_words new_contact_words names_words edge_words state_words flags_words cache_words manifolds_words int_word optional_words
new_contact index id a = go a.body1 a.body2
  where
    of : Option ℕ → Option ℕ → Addition
    of b c = record { collider1 = a.collider1; collider2 = a.collider2; body1 = b; body2 = c; contact_events = a.contact_events; modify_contacts = a.modify_contacts; speculative = a.speculative }

    words : Option ℕ → Option ℕ → List ℕ
    words b c = new_contact_words index (of b c)

    go : (b c : Option ℕ) → contact_words index (new_pair id (of b c)) ≡ words b c ++ zeros 503
    go None None = ap (λ (r : List ℕ). words None None ++ r) nothing
    go None (Some n) = ap (λ (r : List ℕ). words None (Some n) ++ r) nothing
    go (Some m) None = ap (λ (r : List ℕ). words (Some m) None ++ r) nothing
    go (Some m) (Some n) = ap (λ (r : List ℕ). words (Some m) (Some n) ++ r) nothing

pub length_new : (index : ℕ) (a : Addition) → length (new_contact_words index a) ≡ 20
unfolding new_contact_words
length_new index a = simp length-append (omega (arith, length_optional a.body1, length_optional a.body2))

-- its pair fits
pub new_fits : (id : ℕ) (a : Addition) → FitFloat a.speculative → FitPair (new_pair id a)
new_fits id a f =
    record {
      manifolds = record { few = lit≤ tt; each = λ k d l. absurd (omega arith) };
      count_change = record { sfits = lit< tt };
      speculative = f;
      cache = record { each = λ c e. absurd (let z : ◌≡◌ {A = ℕ} 0 1 = cc in omega arith) };
    }

-- the twenty words are stored, and zeros after them
pub new_stored : (xs : List ℕ) (at index id : ℕ) (a : Addition) {ys zs : List ℕ} → ys ≡ put xs at (new_contact_words index a) → zs ≡ put ys (at + 20) (zeros 503)
    → zs ≡ put xs at (contact_words index (new_pair id a))
new_stored xs at index id a p q =
    q ∙ ap (λ (ys : List ℕ). put ys (at + 20) (zeros 503)) p ∙ put_next xs at (new_contact_words index a) (zeros 503) 20 (length_new index a)
    ∙ ap (put xs at) (sym (new_contact index id a))
