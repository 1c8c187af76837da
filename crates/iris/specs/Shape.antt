-- Which transfers a session of the registers makes.
use Rattle.std.specs.Prelude.{◌≡◌, ◌+◌, ℕ, List, [], ◌∷◌, length}
use Rattle.iris_name.specs.declared.note.Note.TheVariants.{Call, Got, Put}
use Rattle.iris_name.specs.declared.request.Request.TheVariants.{Write, Read}
use Rattle.iris_name.specs.History.{Past}
use Rattle.iris_history.specs.Kept.{table_of}
use Rattle.iris.specs.Answers.{IsRightReply}
use Rattle.iris.specs.Registers.{register_at, block_name, registers, Clean}

-- One put of the place's block directly after the call of each write, one get of it directly before the call of each read
-- of a place that is clean there, and nothing else.
pub data IsShaped (key : List ℕ) : Past → Type 0 where
  Empty : IsShaped key []
  Wrote : (past : Past) (a b who since offset : ℕ) (path block bytes : List ℕ) (reply : _) (ok : _) → a + since ≡ length past + 1 → IsShaped key past
      → IsShaped key (record { note = Put who since (block_name (register_at offset)) bytes ok; opened = a } ∷ record { note = Call who (Write path offset block) reply; opened = b } ∷ past)
  Fetched : (past : Past) (a b who since offset len : ℕ) (path : List ℕ) (reply : _) (answer : _) → b + since ≡ length past → IsRightReply key (register_at offset) ((table_of (registers key) past).version (register_at offset)) answer reply → Clean key past (register_at offset) → IsShaped key past
      → IsShaped key (record { note = Call who (Read path offset len) reply; opened = a } ∷ record { note = Got who since (block_name (register_at offset)) answer; opened = b } ∷ past)
  Had : (past : Past) (a who offset len : ℕ) (path : List ℕ) (reply : _) → (Clean key past (register_at offset) → ⊥) → IsShaped key past
      → IsShaped key (record { note = Call who (Read path offset len) reply; opened = a } ∷ past)
