-- What the words of a setting give, and by which rule a step matches by them. Assumes nothing.
use Rattle.std.specs.Prelude.{ℕ, ◌+◌, ◌≡◌, Bool, List}
use Rattle.std.proofs.Math.Path.{ap}
use Rattle.std.proofs.Common.{◌∙◌}
use Rattle.std.proofs.Math.Bool.{true, cond}
use Rattle.std.proofs.Math.Dec.{eqb}
use Rattle.rules.specs.Matching.{by_number, by_place, feature_rule}
use Rattle.words.specs.Words.{word_at, mark_at}
use Rattle.layout.specs.Settings.{settings_matching}
use Rattle.collider.specs.Recorded.{mark_or, settings_of}

module _ (unnamed : Bool) (xs : List ℕ) (at : ℕ) where
  pub setting_unnamed : word_at xs at ≡ 0 → mark_or unnamed xs at ≡ unnamed
  unfolding mark_or
  setting_unnamed e = ap (λ (w : ℕ). cond (eqb w 1) (mark_at xs (at + 1)) unnamed) e

  pub setting_named : word_at xs at ≡ 1 → mark_or unnamed xs at ≡ mark_at xs (at + 1)
  unfolding mark_or
  setting_named e = ap (λ (w : ℕ). cond (eqb w 1) (mark_at xs (at + 1)) unnamed) e

module _ (xs : List ℕ) where
  -- a step that does not name the matching setting goes by place, whatever stands behind the mark
  pub unnamed_by_place : word_at xs settings_matching ≡ 0 → feature_rule (settings_of xs).by_place ≡ by_place
  unfolding settings_of
  unnamed_by_place e = ap feature_rule (setting_unnamed true xs settings_matching e)

  -- one that names 0 goes by number, one that names 1 by place
  pub zero_by_number : word_at xs settings_matching ≡ 1 → word_at xs (settings_matching + 1) ≡ 0 → feature_rule (settings_of xs).by_place ≡ by_number
  unfolding settings_of
  zero_by_number e f = ap feature_rule (setting_named true xs settings_matching e ∙ ap (λ (w : ℕ). eqb w 1) f)

  pub one_by_place : word_at xs settings_matching ≡ 1 → word_at xs (settings_matching + 1) ≡ 1 → feature_rule (settings_of xs).by_place ≡ by_place
  unfolding settings_of
  one_by_place e f = ap feature_rule (setting_named true xs settings_matching e ∙ ap (λ (w : ℕ). eqb w 1) f)
