-- Requests and replies as the program can hold them: texts in UTF-8, and bytes below 256.
use Rattle.std.specs.Prelude.{ℕ, ◌<◌, List, All}
use Rattle.std.specs.Str.{IsUtf8}
use Rattle.iris_name.specs.declared.request.Request.{Request}
use Rattle.iris_name.specs.declared.request.Request.TheVariants.{Mkdir, Create, Write, Read, Resize, Stat, List as ListNames, Rename, Remove, Sync, Root, Reclaim, Probe}
use Rattle.iris_name.specs.declared.request.Reply.{Reply}
use Rattle.iris_name.specs.declared.request.Reply.TheVariants.{Done, Bytes, Names, Stat as Stated, Digest, Synced, Reclaimed, Probed, Plain, Refused}

-- each is a byte
abbrev pub AreBytes : List ℕ → Type 0
AreBytes bytes = All (λ b. b < 256) bytes

-- the texts of a request are texts, and its bytes are bytes
abbrev pub IsRequest : Request → Type 0
IsRequest (Mkdir path) = IsUtf8 path
IsRequest (Create path) = IsUtf8 path
IsRequest (Write path offset bytes) = IsUtf8 path × AreBytes bytes
IsRequest (Read path offset size) = IsUtf8 path
IsRequest (Resize path size) = IsUtf8 path
IsRequest (Stat path) = IsUtf8 path
IsRequest (ListNames path after) = IsUtf8 path × IsUtf8 after
IsRequest (Rename from to) = IsUtf8 from × IsUtf8 to
IsRequest (Remove path) = IsUtf8 path
IsRequest Sync = Unit {0}
IsRequest Root = Unit {0}
IsRequest Reclaim = Unit {0}
IsRequest (Probe at) = Unit {0}

-- the texts of a reply are texts, and its bytes are bytes
abbrev pub IsReply : Reply → Type 0
IsReply (Bytes bytes) = AreBytes bytes
IsReply (Names names) = All IsUtf8 names
IsReply (Digest hash) = AreBytes hash.0
IsReply Done = Unit {0}
IsReply (Stated dir size) = Unit {0}
IsReply Synced = Unit {0}
IsReply (Reclaimed left) = Unit {0}
IsReply (Probed file place version) = Unit {0}
IsReply (Plain error) = Unit {0}
IsReply (Refused cause) = Unit {0}
