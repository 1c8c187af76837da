-- What is asked before something begins for a name, and what is out then.
use Rattle.std.specs.Prelude.{ℕ, ◌≡◌, ◌⊎◌, List, Bool, true, false, Option, Some, None, IsSome, IsNone, IsSomeAnd}
use Rattle.iris_name.specs.declared.name.Name.{Name}
use Rattle.iris_name.specs.declared.note.Expect.{Expect}
use Rattle.iris_name.specs.declared.request.Request.{Request}
use Rattle.iris_name.specs.History.{Past}
use Rattle.iris_history.specs.Kept.{Kept, Carries, shown_in}
use Rattle.iris_history.specs.Legal.{Rules}
use Rattle.iris_invariant.specs.Agrees.{Doing, Out, View, marked, IsTrueOf, is_challenge}

-- what has just begun for a caller: untouched
abbrev pub begun_out : ℕ → ℕ → Option Request → Doing → Bool → Out
begun_out who since request doing crowded = record { who = who; since = since; request = request; doing = doing; crowded = crowded; touched = false }

-- A get: of a live name that is unmarked, and absent unless it is challenged; with a true expectation; for the request that
-- its caller asks, which reaches the name.
pub record MayGet (k : Kept) (r : Rules) (past : Past) (v : View) (who : ℕ) (n : Name) (request : Request) (expect : Expect) : Type 0 where
  pub live : IsSome (shown_in k past n)
  pub unmarked : marked (v.cell n) ≡ false
  pub absent : is_challenge (Some request) n ≡ false → (v.cell n).resident ≡ false
  pub expected : IsTrueOf k n expect (shown_in k past n)
  pub asked : v.asked who ≡ Some request
  pub reached : r.reaches past request n

-- A chore is for no request, or for the one that its caller asks; a crowded one is for a request that may wait for the store.
pub record IsChoreFor (r : Rules) (past : Past) (v : View) (who : ℕ) (request : Option Request) (crowded : Bool) : Type 0 where
  pub asked : (request ≡ None) ⊎ (v.asked who ≡ request)
  pub waits : crowded ≡ true → IsSomeAnd request (λ q. r.waits past q)

-- A put: of a live name that is marked and settled, with its record.
pub record MayPut (k : Kept) (past : Past) (v : View) (n : Name) (bytes : List ℕ) : Type 0 where
  pub live : IsSome (shown_in k past n)
  pub marked_ : marked (v.cell n) ≡ true
  pub settled : (v.cell n).settled ≡ true
  pub carried : Carries k n (shown_in k past n) bytes

-- A discard: of a name that isn't live, and is marked.
pub record MayDiscard (k : Kept) (past : Past) (v : View) (n : Name) : Type 0 where
  pub gone : IsNone (shown_in k past n)
  pub marked_ : marked (v.cell n) ≡ true
