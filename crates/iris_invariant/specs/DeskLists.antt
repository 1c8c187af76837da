-- The desks as lists, and their look-ups. What is out stands with its name; the number of the desk is in what is out.
use Rattle.std.specs.Prelude.{ℕ, zero, suc, ◌≤◌, ◌+◌, List, [], ◌∷◌, ◌++◌, Option, Some, None, if◌then◌else◌}
use Rattle.std.specs.Map.{lookup}
use Rattle.iris_name.specs.declared.name.Name.{Name}
use Rattle.iris_name.specs.Names.{same_name}
use Rattle.iris_invariant.specs.Agrees.{Out}

abbrev pub Outs : Type 0
Outs = List (Name × Out)

abbrev pub first_out : Option Out → Option Out → Option Out
first_out None y = y
first_out (Some x) y = Some x

-- what is out for a name at the first desk that has it
abbrev pub out_at : List Outs → Name → Option Out
out_at [] n = None
out_at (outs ∷ desks) n = first_out (lookup (same_name n) outs) (out_at desks n)

-- a desk gets one more, last
abbrev pub began_at : ℕ → Name → Out → List Outs → List Outs
began_at who n o [] = []
began_at zero n o (outs ∷ desks) = (outs ++ (n, o) ∷ []) ∷ desks
began_at (suc who) n o (outs ∷ desks) = outs ∷ began_at who n o desks

-- the first that a desk has of a name is taken off
abbrev pub without_out : Name → Outs → Outs
without_out n [] = []
without_out n (x ∷ outs) = if same_name n x.0 then outs else x ∷ without_out n outs

abbrev pub ended_at : ℕ → Name → List Outs → List Outs
ended_at who n [] = []
ended_at zero n (outs ∷ desks) = without_out n outs ∷ desks
ended_at (suc who) n (outs ∷ desks) = outs ∷ ended_at who n desks

-- how often a name is out: at most once at all desks together is what the desks keep
abbrev pub times_out : Name → Outs → ℕ
times_out n [] = 0
times_out n (x ∷ outs) = (if same_name n x.0 then 1 else 0) + times_out n outs

abbrev pub times_in : Name → List Outs → ℕ
times_in n [] = 0
times_in n (outs ∷ desks) = times_out n outs + times_in n desks

abbrev pub AreOutOnce : List Outs → Type 0
AreOutOnce desks = (n : Name) → times_in n desks ≤ 1
