-- Bytes written one after another. Assumes nothing.
use Rattle.std.specs.Prelude.{◌≡◌, refl, List, [], ◌∷◌, ◌++◌, ℕ, ◌+◌, ◌≤◌, ◌<◌, length, take, get_or}
use Rattle.std.proofs.Common.{sym, ap, ◌∙◌, add-zero, arith, length-append, take_all}
use Rattle.rows.specs.Rows.{put}
use Rattle.rows.specs.Laws.{put_one, put_append, store_step}
use Rattle.text.specs.Text.{Written}

-- the first k bytes are written
pub record Writing (out : List ℕ) (at : ℕ) (bytes out' : List ℕ) (next k : ℕ) : Type 0 where
  pub inside : k ≤ length bytes
  pub place : next ≡ at + k
  pub stored : out' ≡ put out at (take k bytes)

pub writing_none : (out : List ℕ) (at : ℕ) (bytes : List ℕ) → Writing out at bytes out at 0
unfolding put
writing_none out at bytes = record { inside = omega arith; place = sym (add-zero at); stored = refl }

pub writing_next : (out : List ℕ) (at : ℕ) (bytes out' out'' : List ℕ) (next k r : ℕ) → Writing out at bytes out' next k → k < length bytes
    → Written out' next (get_or bytes k 0 ∷ []) out'' r → Writing out at bytes out'' r (k + 1)
writing_next out at bytes out' out'' next k r w h s =
    record {
      inside = omega (arith, h);
      place = s.count ∙ omega (arith, w.place);
      stored = s.stored ∙ ap (λ (n : ℕ). put out' n (get_or bytes k 0 ∷ [])) w.place ∙ sym (put_one out' (at + k) (get_or bytes k 0)) ∙ store_step out at bytes k 0 w.stored h;
    }

pub writing_all : (out : List ℕ) (at : ℕ) (bytes out' : List ℕ) (next k : ℕ) → Writing out at bytes out' next k → length bytes ≤ k → Written out at bytes out' next
writing_all out at bytes out' next k w h =
    let e : k ≡ length bytes = omega (arith, w.inside, h) in
    record { count = w.place ∙ ap (λ (n : ℕ). at + n) e; stored = w.stored ∙ ap (put out at) (take_all k bytes h) }

-- one text after another
pub written_then : {out out' out'' : List ℕ} {at next r : ℕ} (as' bs : List ℕ) → Written out at as' out' next → Written out' next bs out'' r → Written out at (as' ++ bs) out'' r
written_then {out} {out'} {out''} {at} {next} {r} as' bs p q =
    record {
      count = q.count ∙ omega (arith, p.count, length-append as' bs);
      stored = q.stored ∙ ap (λ (n : ℕ). put out' n bs) p.count ∙ ap (λ (xs : List ℕ). put xs (at + length as') bs) p.stored ∙ sym (put_append out at as' bs);
    }

-- what was written is what the row holds once it is lent no more
pub written_kept : {out ended : List ℕ} {at r : ℕ} (bytes last : List ℕ) → last ≡ ended → Written out at bytes ended r → Written out at bytes last r
written_kept bytes last e w = record { count = w.count; stored = e ∙ w.stored }
