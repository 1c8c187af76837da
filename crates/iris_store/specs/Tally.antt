-- How calls and failures are counted, which calls are to fail, and what a call answers then.
use Rattle.std.specs.Prelude.{◌≡◌, ◌⊎◌, ℕ, ◌+◌, ◌-◌, ◌^◌, ◌==◌, min, Bool, true, false, List, Option, Some, None, Result, Ok, Err}
use Rattle.std.specs.List.{list_any}

-- one more, up to the last u64
abbrev pub counted : ℕ → ℕ
counted n = min (n + 1) (2 ^ 64 - 1)

-- whether the call after so many is one of those that are to fail, counted from 1
abbrev pub is_to_fail : List ℕ → ℕ → Bool
is_to_fail failing calls = list_any (λ n. n == counted calls) failing

-- what a call answers that fails or not: the error of a failure; otherwise a, or the error that may come in its place, if
-- there is one
abbrev pub Answers : {A E : Type 0} → E → Option E → Bool → A → Result A E → Type 0
Answers failure free true a result = result ≡ Err failure
Answers failure None false a result = result ≡ Ok a
Answers failure (Some error) false a result = (result ≡ Ok a) ⊎ (result ≡ Err error)
