-- Which command the words give.
use Rattle.std.proofs.Common.{ℕ, List, Result, Ok, Err}
use Rattle.std.specs.Prelude.{◌↔◌, IfOk}
use Rattle.iris.specs.Commands.{HasNoCommand}
use Rattle.iris.specs.Plain.{ArePlain, AreNotPlain}
use Rattle.iris.specs.Top.{HasNoKey}

-- words that aren't `plain` and a key are no command where they aren't `registers` and a key
pub registers_only : {E : Type 0} (words : List (List ℕ)) (P : ℕ × ℕ → Type 0) (r : Result (ℕ × ℕ) E)
    → AreNotPlain words → IfOk r (λ ended. P ended ↔ HasNoKey words) → IfOk r (λ ended. P ended ↔ HasNoCommand words)
registers_only words P (Ok ended) none h = (λ x. (h.0 x, none), λ x. h.1 x.0)
registers_only words P (Err e) none h = tt

-- words that are `plain` and a key are a command
pub plain_only : (words : List (List ℕ)) (key : List ℕ) (P : Type 0) → ArePlain words key → P ↔ AreNotPlain words → P ↔ HasNoCommand words
plain_only words key P some h = (λ x. absurd (h.0 x key some), λ x. h.1 x.1)
