-- What is started from and what is saved, as statements.
use Rattle.std.specs.Prelude.{ℕ, length, Bool}
use Rattle.iris_name.specs.declared.name.Name.{Name}
use Rattle.iris_name.specs.History.{Past}
use Rattle.iris_history.specs.Kept.{Kept}
use Rattle.iris_history.specs.Legal.{Rules}
use Rattle.iris_invariant.specs.Agrees.{View, Agrees}
use Rattle.iris_invariant.specs.Saves.{Saved, Started}

-- a core just started agrees with each history that its state saves
abbrev pub StartsAgree : Kept → Rules → Type 0
StartsAgree k r = (past : Past) (held doomed : Name → Bool) (v : View) → ((n : Name) → Saved k n past (held n) (doomed n)) → Started held doomed v → Agrees k r (length past) past v

-- and what is dirty, and what is listed as doomed, in a core that agrees with a history saves that history
abbrev pub AgreedIsSaved : Kept → Rules → Type 0
AgreedIsSaved k r = (opened : ℕ) (past : Past) (v : View) → Agrees k r opened past v → (n : Name) → Saved k n past (v.cell n).dirty (v.cell n).doomed
