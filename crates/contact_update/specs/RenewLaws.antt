-- A full update from what its functions give. Assumes nothing.
use Rattle.std.specs.Prelude.{◌≡◌, refl, ℕ, zero, suc, Bool, false, not, List, [], ◌∷◌, ◌++◌, eqb, Float, ◌-ℤ◌, Some}
use Rattle.std.proofs.Math.Path.{sym, ap}
use Rattle.std.proofs.Common.{◌∙◌, inr, arith, ne_eqb}
use Rattle.std.specs.Float.Ieee.{of_bits, to_bits}
use Rattle.std.proofs.Math.IntN.{pos}
use Rattle.std.proofs.Math.ListN.{length}
use Rattle.math.specs.Floats.{◌⊕◌}
use Rattle.rows.specs.Laws.{put_next, put_comm}
use Rattle.rows.specs.Rows.{put}
use Rattle.rules.specs.Filtering.{is_empty}
use Rattle.rules.specs.Inputs.{Settings, Collider, ProposedManifold}
use Rattle.rules.specs.Records.{Manifold, PairFlags, Pair}
use Rattle.rules.specs.Sides.{Side}
use Rattle.rules.specs.Surface.{Surface, surface_of}
use Rattle.rules.specs.Update.{enabled, matched, change_of, remaining, renewed_flags, status_bit, renewed}
use Rattle.words.specs.Words.{word_at}
use Rattle.layout.specs.Contact.{contact_manifolds}
use Rattle.contact_records.specs.LengthLaws.{length_cache}
use Rattle.manifold_records.specs.Recorded.{manifolds_at}
use Rattle.contact_records.specs.StateViews.{flags_of, cached_of}
use Rattle.manifold_records.specs.Written.{manifolds_words}
use Rattle.contact_records.specs.Written.{flags_words, cache_words, int_word, state_words}
use Rattle.contact_update.specs.After.{after_words}
use Rattle.contact_update.specs.PutLaws.{manifolds_length}
use Rattle.contact_update.specs.Updates.{Updates, ManifoldsRenewed, StateRenewed}
use Rattle.contact_update.specs.declared.renewal.Renewal.{Renewal}

empty_count : (ms : List Manifold) (n : ℕ) → length ms ≡ n → is_empty ms ≡ eqb n 0
empty_count [] zero e = refl
empty_count [] (suc n) e = absurd (omega arith)
empty_count (m ∷ ms) zero e = absurd (omega arith)
empty_count (m ∷ ms) (suc n) e = sym (ne_eqb (suc n) 0 (λ z. omega arith))

-- the manifolds are stored first, and the words before them after that
state_stored : (w : List ℕ) (f : PairFlags) (change : ℕ) (cache manifolds : List ℕ) {mid after : List ℕ} → length cache ≡ 16
    → mid ≡ put w 36 manifolds → after ≡ put mid 9 (flags_words f ++ change ∷ 0 ∷ cache)
    → after ≡ put w 9 (flags_words f ++ change ∷ 0 ∷ cache ++ manifolds)
unfolding flags_words
state_stored w f change cache manifolds l p q =
    let head = flags_words f ++ change ∷ 0 ∷ cache in
    let n : length head ≡ 27 = omega (arith, l) in
    q ∙ ap (λ (x : List ℕ). put x 9 head) p ∙ put_comm w 36 manifolds 9 head (inr (omega arith)) ∙ put_next w 9 head manifolds 27 n

module _ (s : Settings) (answer : Bool) (proposal : List ProposedManifold) (c1 c2 : Collider) (a b : Side) (w : List ℕ) (p : Pair)
    (speculative : Float) (flags : PairFlags) (f : Surface) (old new : ℕ)
    (es : speculative ≡ p.speculative) (ef : flags ≡ p.flags) (em : manifolds_at w contact_manifolds ≡ p.manifolds)
    (eo : old ≡ word_at w contact_manifolds) (shared : f ≡ surface_of s c1 c2 a b speculative) where
  abbrev remain : List Manifold
  remain = remaining s.step_time a b (surface_of s c1 c2 a b p.speculative) p.flags.modify_contacts answer proposal

  same_surface : f ≡ surface_of s c1 c2 a b p.speculative
  same_surface = shared ∙ ap (surface_of s c1 c2 a b) es

  same_left : remaining s.step_time a b f flags.modify_contacts answer proposal ≡ remain
  same_left = λ i. remaining s.step_time a b (same_surface i) (ef i).modify_contacts answer proposal

  module _ {mid : List ℕ} (r : Renewal) (m : ManifoldsRenewed s (manifolds_at w contact_manifolds) (remaining s.step_time a b f flags.modify_contacts answer proposal) w mid new)
      (state : StateRenewed c1 c2 a b f flags old new r) where
    same_touching : not (eqb new 0) ≡ not (is_empty remain)
    same_touching = ap not (sym (empty_count remain new (sym (ap length same_left) ∙ m.count)))

    same_change : pos new -ℤ pos old ≡ change_of p.manifolds remain
    unfolding change_of
    same_change = λ i. pos ((sym m.count ∙ ap length same_left) i) -ℤ pos ((eo ∙ sym (manifolds_length w contact_manifolds) ∙ ap length em) i)

    pub full_updates : {after : List ℕ} → after ≡ put mid 9 (flags_words (flags_of r.flags) ++ r.change ∷ 0 ∷ cache_words (Some (cached_of r.cache)))
        → Updates (renewed s answer proposal c1 c2 a b p) w after (record { bit = r.bit; recycled = false; max_contact_distance = r.max_contact_distance })
    unfolding renewed after_words state_words of_bits to_bits
    full_updates e =
        record {
          words = state_stored w (flags_of r.flags) r.change (cache_words (Some (cached_of r.cache))) _ (length_cache (Some (cached_of r.cache))) m.words e
              ∙ (λ i. put w 9 (flags_words ((state.flags ∙ (λ j. renewed_flags (ef j) a.is_static b.is_static (enabled c1 c2 a b) (same_touching j))) i) ++ (state.change ∙ ap int_word same_change) i ∷ 0 ∷ cache_words (Some (state.cache i)) ++ manifolds_words (matched s (em i) (same_left i))));
          bit = state.bit ∙ (λ i. status_bit (ef i) (enabled c1 c2 a b) (same_touching i) (same_change i));
          recycled = refl;
          distance = state.distance ∙ (λ i. (same_surface i).margins ⊕ (same_surface i).effective_speculative);
        }
