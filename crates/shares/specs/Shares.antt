-- The workers' shares, and refusal 7: workers not 1 to 8, some active pair not listed once among them, or anything else listed. Definitions only.
use Rattle.std.specs.Prelude.{ℕ, zero, suc, ◌+◌, Bool, cond, not, ◌&&◌, List, eqb, ltb, leb}
use Rattle.rules.specs.Numbers.{every}
use Rattle.words.specs.Words.{word_at}
use Rattle.contact_range.specs.Range.{stands}
use Rattle.contact_range.specs.Recorded.{capacity_of, listed_count, listed_at}
use Rattle.rules.specs.Limits.{most_workers}
use Rattle.layout.specs.Shares.{shares_counts, shares_entries}

abbrev pub workers_of : List ℕ → ℕ
workers_of xs = word_at xs 0

-- how many contacts a worker has
abbrev pub count_of : List ℕ → ℕ → ℕ
count_of xs w = word_at xs (shares_counts + w)

-- the contacts of the workers before it
unfoldable pub start_of : List ℕ → ℕ → ℕ
start_of xs zero = 0
start_of xs (suc w) = start_of xs w + count_of xs w

-- all that are listed: only the given workers' counts are read
abbrev pub total_of : List ℕ → ℕ
total_of xs = start_of xs (workers_of xs)

-- worker by worker
abbrev pub entry_at : List ℕ → ℕ → ℕ
entry_at xs j = word_at xs (shares_entries + j)

-- how many of the first n are that number
unfoldable pub times : (ℕ → ℕ) → ℕ → ℕ → ℕ
times entry id zero = 0
times entry id (suc n) = times entry id n + cond (eqb (entry n) id) 1 0

-- there are 1 to 8 workers, and their counts together are at most the capacity
unfoldable pub counts_fit : List ℕ → List ℕ → Bool
counts_fit xs g = (ltb 0 (workers_of xs) && leb (workers_of xs) most_workers) && leb (total_of xs) (capacity_of g)

-- what is listed is active
unfoldable pub entries_stand : List ℕ → List ℕ → Bool
entries_stand xs g = every (λ j. stands g (entry_at xs j)) (total_of xs)

-- each active pair is listed once
unfoldable pub active_once : List ℕ → List ℕ → Bool
active_once xs g = every (λ p. eqb (times (entry_at xs) (listed_at g p) (total_of xs)) 1) (listed_count g)

unfoldable pub shares_fit : List ℕ → List ℕ → Bool
shares_fit xs g = counts_fit xs g && (entries_stand xs g && active_once xs g)

-- ---- as the code tests it
-- no entry stands twice
unfoldable pub entries_once : List ℕ → Bool
entries_once xs = every (λ k. every (λ j. not (eqb (entry_at xs j) (entry_at xs k))) k) (total_of xs)
