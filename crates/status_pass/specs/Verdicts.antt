-- The code's verdict as the rules' one. Definitions only.
use Rattle.std.specs.Prelude.{ℕ, ◌≡◌, List}
use Rattle.rules.specs.Status as rules
use Rattle.contact_records.specs.Recorded.{pair_at}
use Rattle.status_pass.specs.declared.verdict.Verdict.{Verdict}
use Rattle.status_pass.specs.declared.verdict.Verdict.TheVariants.{Vanishes, Starts, Stops, Generates, Recounts, Persists}

abbrev pub plain_verdict : Verdict → rules.Verdict
plain_verdict Vanishes = rules.vanishes
plain_verdict Starts = rules.starts
plain_verdict Stops = rules.stops
plain_verdict Generates = rules.generates
plain_verdict Recounts = rules.recounts
plain_verdict Persists = rules.persists

-- The promise of `verdict_of`, under whatever id.
pub record VerdictIs (w : List ℕ) (r : Verdict) : Type 0 where
  pub under : (id : ℕ) → plain_verdict r ≡ rules.verdict (pair_at w 0 id)
