-- Rows of colliders and of bodies that are filled up with zeros: past the first words all are absent, and so in range. Assumes nothing.
use Rattle.std.specs.Prelude.{ℕ, ◌+◌, ◌-◌, ◌*◌, ◌≤◌, ◌≡◌, refl, Bool, true, false, ◌&&◌, List, ◌++◌, eqb, ltb, length, None, Some}
use Rattle.std.proofs.Common.{arith, ◌∙◌, ltb-true, ltb-false, get_or-append-add}
use Rattle.std.proofs.Math.Path.{ap}
use Rattle.std.proofs.Math.Bool.{cond}
use Rattle.rules.specs.Limits.{bodies}
use Rattle.rules.specs.Numbers.{every}
use Rattle.rule_laws.specs.NumberLaws.{every_at, every_all}
use Rattle.words.specs.Words.{word_at, is_mark, where_set}
use Rattle.layout.specs.Body.{body_friction, body_margin, body_speculative_maximum, body_static}
use Rattle.layout.specs.Collider.{collider_body, collider_friction, collider_margin, collider_restitution, collider_sensor, collider_size}
use Rattle.collider.specs.Range.{coefficient_fits, collider_fits, body_fits}
use Rattle.collider.specs.Recorded.{collider_at, present_collider}
use Rattle.manifold_records.specs.Written.{zeros}
use Rattle.contact_graph.specs.LaidOutLaws.{zeros_at}

-- a test of the numbers below n that holds of the first k and from k on
pub every_from : (f : ℕ → Bool) (k : ℕ) → every f k ≡ true → ((j : ℕ) → k ≤ j → f j ≡ true) → (n : ℕ) → every f n ≡ true
every_from f k e p n = every_all f n (λ j l. go j (ltb j k) refl)
  where
    go : (j : ℕ) (t : Bool) → ltb j k ≡ t → f j ≡ true
    go j true q = every_at f k j e (ltb-true j k q)
    go j false q = p j (ltb-false j k q)

module _ (ws : List ℕ) (m : ℕ) where
  word_past : (at : ℕ) → length ws ≤ at → word_at (ws ++ zeros m) at ≡ 0
  word_past at l =
      let k = at - length ws in
      let e : at ≡ length ws + k = omega arith in
      ap (word_at (ws ++ zeros m)) e ∙ get_or-append-add ws (zeros m) k 0 ∙ zeros_at m k

  pub collider_past : (n : ℕ) → length ws ≤ n * collider_size → collider_at (ws ++ zeros m) n ≡ None
  unfolding collider_at
  collider_past n l =
      ap (λ (w : ℕ). cond (eqb w 1) (Some (present_collider (ws ++ zeros m) (n * collider_size))) None) (word_past (n * collider_size) l)

  pub collider_fits_past : (at : ℕ) → length ws ≤ at → collider_fits (ws ++ zeros m) at ≡ true
  unfolding collider_fits
  collider_fits_past at l =
      let xs = ws ++ zeros m in
      ap (λ (w : ℕ). where_set w
      (where_set (word_at xs (at + collider_body)) (ltb (word_at xs (at + collider_body + 1)) bodies)
      && (coefficient_fits xs (at + collider_friction)
      && (coefficient_fits xs (at + collider_restitution)
      && (is_mark (word_at xs (at + collider_margin)) && is_mark (word_at xs (at + collider_sensor))))))) (word_past at l)

  pub body_fits_past : (at : ℕ) → length ws ≤ at → body_fits (ws ++ zeros m) at ≡ true
  unfolding body_fits
  body_fits_past at l =
      let xs = ws ++ zeros m in
      ap (λ (w : ℕ). where_set w
      (is_mark (word_at xs (at + body_static))
      && (coefficient_fits xs (at + body_friction)
      && (is_mark (word_at xs (at + body_margin)) && is_mark (word_at xs (at + body_speculative_maximum)))))) (word_past at l)
