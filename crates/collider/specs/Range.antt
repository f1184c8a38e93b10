-- Refusal 2 of settings, colliders and bodies, condition by condition. Definitions only.
-- Of each of the 256 and 128 records the presence mark is tested, and the rest where that is 1. Nothing behind a mark of 0 is asked.
use Rattle.std.specs.Prelude.{ℕ, ◌+◌, ◌*◌, Bool, ◌&&◌, List, ltb, leb}
use Rattle.rules.specs.Limits.{colliders, bodies}
use Rattle.rules.specs.Numbers.{every}
use Rattle.words.specs.Words.{word_at, is_mark, where_set}
use Rattle.layout.specs.Body.{body_friction, body_margin, body_size, body_speculative_maximum, body_static}
use Rattle.layout.specs.Collider.{collider_body, collider_friction, collider_margin, collider_restitution, collider_sensor, collider_size}
use Rattle.layout.specs.Settings.{settings_friction, settings_match_contacts, settings_matching, settings_restitution}

-- a combining rule is 1 to 5
abbrev pub is_rule : ℕ → Bool
is_rule w = ltb 0 w && leb w 5

-- mark, coefficient, rule
abbrev pub coefficient_fits : List ℕ → ℕ → Bool
coefficient_fits xs at = where_set (word_at xs at) (is_rule (word_at xs (at + 2)))

-- presence mark, mark
abbrev pub setting_fits : List ℕ → ℕ → Bool
setting_fits xs at = where_set (word_at xs at) (is_mark (word_at xs (at + 1)))

unfoldable pub settings_fit : List ℕ → Bool
settings_fit xs =
    is_mark (word_at xs settings_match_contacts)
    && (is_rule (word_at xs (settings_friction + 1)) && (is_rule (word_at xs (settings_restitution + 1)) && setting_fits xs settings_matching))

-- mark, number
unfoldable pub body_number_fits : List ℕ → ℕ → Bool
body_number_fits xs at = where_set (word_at xs at) (ltb (word_at xs (at + 1)) bodies)

-- what is asked of a collider that is present
unfoldable pub collider_values_fit : List ℕ → ℕ → Bool
unfolding body_number_fits
collider_values_fit xs at =
    body_number_fits xs (at + collider_body)
    && (coefficient_fits xs (at + collider_friction)
    && (coefficient_fits xs (at + collider_restitution)
    && (is_mark (word_at xs (at + collider_margin)) && is_mark (word_at xs (at + collider_sensor)))))

unfoldable pub collider_fits : List ℕ → ℕ → Bool
unfolding collider_values_fit
collider_fits xs at = where_set (word_at xs at) (collider_values_fit xs at)

-- so many records, one after another
abbrev pub records_fit : (List ℕ → ℕ → Bool) → ℕ → ℕ → List ℕ → Bool
records_fit values_fit size count xs = every (λ n. where_set (word_at xs (n * size)) (values_fit xs (n * size))) count

unfoldable pub colliders_fit : List ℕ → Bool
colliders_fit xs = every (λ n. collider_fits xs (n * collider_size)) colliders

-- what is asked of a body that is present
unfoldable pub body_values_fit : List ℕ → ℕ → Bool
body_values_fit xs at =
    is_mark (word_at xs (at + body_static))
    && (coefficient_fits xs (at + body_friction)
    && (is_mark (word_at xs (at + body_margin)) && is_mark (word_at xs (at + body_speculative_maximum))))

unfoldable pub body_fits : List ℕ → ℕ → Bool
unfolding body_values_fit
body_fits xs at = where_set (word_at xs at) (body_values_fit xs at)

unfoldable pub bodies_fit : List ℕ → Bool
bodies_fit xs = every (λ n. body_fits xs (n * body_size)) bodies
