-- The replies to requests by the table.
use Rattle.std.specs.Prelude.{◌≡◌, ℕ, List, Bool, true, false, slice_get}
use Rattle.iris_name.specs.declared.request.Request.{Request}
use Rattle.iris_name.specs.declared.request.Request.TheVariants.{Mkdir, Create, Write, Read, Resize, Stat, List as ListNames, Rename, Remove, Sync, Root, Reclaim, Probe}
use Rattle.iris_name.specs.declared.request.Reply.{Reply}
use Rattle.iris_name.specs.declared.request.Reply.TheVariants.{Synced, Digest, Reclaimed}
use Rattle.iris_plain.specs.Steps.{PlainReplies, Judged, Accepted}
use Rattle.iris_rows.specs.Rows.{Rows, End, Row, Table}
use Rattle.iris_records.specs.Challenges.{table_walk, IsProbed}
use Rattle.iris_rows.specs.Changes.{table_verdict, stepped}
use Rattle.iris_records.specs.Records.{root_hash}
use Rattle.iris_rows.specs.View.{view}

-- some row is there
abbrev pub is_left : Rows → Bool
is_left End = false
is_left (Row id name file inside next) = true

-- the reply to a plain request by the table's first check that applies
abbrev pub Told : Table → Request → Reply → Type 0
Told t request reply = Judged (table_verdict t request) (Accepted (view t).files request reply) reply

-- the reply of the table with this order key: that of its view to a plain request, its root hash, whether a step of
-- reclaiming leaves trash, and the block at a place of its walk
abbrev pub TableReplies : List ℕ → Table → Request → Reply → Type 0
TableReplies key t (Mkdir path) reply = PlainReplies (view t) (Mkdir path) reply
TableReplies key t (Create path) reply = PlainReplies (view t) (Create path) reply
TableReplies key t (Write path offset bytes) reply = PlainReplies (view t) (Write path offset bytes) reply
TableReplies key t (Read path offset count) reply = PlainReplies (view t) (Read path offset count) reply
TableReplies key t (Resize path size) reply = PlainReplies (view t) (Resize path size) reply
TableReplies key t (Stat path) reply = PlainReplies (view t) (Stat path) reply
TableReplies key t (ListNames path after) reply = PlainReplies (view t) (ListNames path after) reply
TableReplies key t (Rename from to) reply = PlainReplies (view t) (Rename from to) reply
TableReplies key t (Remove path) reply = PlainReplies (view t) (Remove path) reply
TableReplies key t Sync reply = reply ≡ Synced
TableReplies key t Root reply = reply ≡ Digest (record { 0 = root_hash key t })
TableReplies key t Reclaim reply = reply ≡ Reclaimed (is_left (stepped t Reclaim).trash)
TableReplies key t (Probe at) reply = IsProbed t (slice_get (table_walk key t) at) reply
