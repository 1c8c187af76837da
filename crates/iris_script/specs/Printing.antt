-- The printed line of a reply, byte by byte.
use Rattle.std.specs.Prelude.{ℕ, List, [], ◌∷◌, ◌++◌, ◌==◌, ◌||◌, nat_le, length, if◌then◌else◌, true, false, codes, decimal}
use Rattle.std.specs.List.{flat_map}
use Rattle.hex.specs.Hex.{encode_lower}
use Rattle.iris_name.specs.NameText.{name_text}
use Rattle.iris_name.specs.declared.request.Cause.{Cause}
use Rattle.iris_name.specs.declared.request.Cause.TheVariants.{StoreFailed, BadAnswer}
use Rattle.iris_name.specs.declared.request.PlainError.{PlainError}
use Rattle.iris_name.specs.declared.request.PlainError.TheVariants.{NotFound, Exists, NotDir, IsDir, BadPath, TooLong, TooMuch, IntoSelf, Full}
use Rattle.iris_name.specs.declared.request.Reply.{Reply}
use Rattle.iris_name.specs.declared.request.Reply.TheVariants.{Done, Bytes, Names, Stat, Digest, Synced, Reclaimed, Probed, Plain, Refused}

-- a byte of a printed name: `%` and two lower-case digits for what would break a line into other words
abbrev pub escaped_byte : ℕ → List ℕ
escaped_byte b =
    if nat_le b 0x20 || (b == 0x25 || b == 0x7f) then codes "%" ++ encode_lower (b ∷ []) else b ∷ []

-- a printed name
abbrev pub escaped : List ℕ → List ℕ
escaped name = flat_map escaped_byte name

-- two lower-case digits a byte, or `-` for no bytes
abbrev pub hex_text : List ℕ → List ℕ
hex_text [] = codes "-"
hex_text (b ∷ bytes) = encode_lower (b ∷ bytes)

-- the number and the word of a plain error
abbrev pub error_text : PlainError → List ℕ
error_text NotFound = codes "1 NotFound"
error_text Exists = codes "2 Exists"
error_text NotDir = codes "3 NotDir"
error_text IsDir = codes "4 IsDir"
error_text BadPath = codes "5 BadPath"
error_text TooLong = codes "6 TooLong"
error_text TooMuch = codes "7 TooMuch"
error_text IntoSelf = codes "8 IntoSelf"
error_text Full = codes "9 Full"

-- the word of a cause and the name of the record
abbrev pub cause_text : Cause → List ℕ
cause_text (StoreFailed name) = codes "StoreFailed " ++ name_text name
cause_text (BadAnswer name) = codes "BadAnswer " ++ name_text name

-- the words of a reply, a space between two
abbrev pub reply_text : Reply → List ℕ
reply_text Done = codes "done"
reply_text (Bytes bytes) = codes "bytes " ++ hex_text bytes
reply_text (Names names) =
    codes "names " ++ (decimal (length names) ++ flat_map (λ name. codes " " ++ escaped name) names)
reply_text (Stat true len) = codes "stat dir 0"
reply_text (Stat false len) = codes "stat file " ++ decimal len
reply_text (Digest hash) = codes "digest " ++ encode_lower hash.0
reply_text Synced = codes "synced"
reply_text (Reclaimed true) = codes "reclaimed left"
reply_text (Reclaimed false) = codes "reclaimed empty"
reply_text (Probed file place version) =
    codes "probed " ++ (decimal file.0 ++ (codes " " ++ (decimal place ++ (codes " " ++ decimal version))))
reply_text (Plain error) = codes "error " ++ error_text error
reply_text (Refused cause) = codes "refused " ++ cause_text cause

-- the line of a client's reply of this number, with its line feed
abbrev pub reply_line : ℕ → ℕ → Reply → List ℕ
reply_line client number reply =
    decimal client ++ (codes " " ++ (decimal number ++ (codes " " ++ (reply_text reply ++ codes "\n"))))
