-- What a read replies to a store's answer.
use Rattle.std.specs.Prelude.{◌≡◌, ◌⊎◌, ℕ, List, take}
use Rattle.iris_name.specs.declared.request.Cause.TheVariants.{StoreFailed, BadAnswer}
use Rattle.iris_name.specs.declared.request.Reply.{Reply}
use Rattle.iris_name.specs.declared.request.Reply.TheVariants.{Bytes, Refused}
use Rattle.iris_name.specs.declared.note.Answer.{Answer}
use Rattle.iris_name.specs.declared.note.Answer.TheVariants.{Absent, Given, Failed}
use Rattle.iris_name.specs.Hmac.{Passes}
use Rattle.iris.specs.Registers.{block_name}

-- the block where the record passes for the place's version; refused as failed where the get failed, and as a bad answer
-- where it gave nothing or what doesn't pass
abbrev pub IsRightReply : List ℕ → ℕ → ℕ → Answer → Reply → Type 0
IsRightReply key p v Absent reply = reply ≡ Refused (BadAnswer (block_name p))
IsRightReply key p v Failed reply = reply ≡ Refused (StoreFailed (block_name p))
IsRightReply key p v (Given given) reply =
    (Passes key 2 p v given × (reply ≡ Bytes (take 4096 given)))
    ⊎ ((Passes key 2 p v given → ⊥) × (reply ≡ Refused (BadAnswer (block_name p))))
