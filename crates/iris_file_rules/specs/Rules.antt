-- What is asked of the calls of a file system whose records stand in the store.
use Rattle.std.specs.Prelude.{◌≡◌, ◌≢◌, ◌<◌, ℕ, slice_get}
use Rattle.iris_mac.specs.declared.keys.Keys.{Keys}
use Rattle.iris_name.specs.declared.name.FileId.{FileId}
use Rattle.iris_name.specs.declared.name.Name.{Name}
use Rattle.iris_name.specs.declared.request.Request.{Request}
use Rattle.iris_name.specs.declared.request.Request.TheVariants.{Sync}
use Rattle.iris_name.specs.declared.request.Reply.{Reply}
use Rattle.iris_name.specs.declared.request.Reply.TheVariants.{Synced}
use Rattle.iris_name.specs.History.{Past}
use Rattle.iris_history.specs.Crowding.{MayWaitForStore}
use Rattle.iris_history.specs.Kept.{table_of}
use Rattle.iris_history.specs.Legal.{Rules, IsLegal, IsBad}
use Rattle.iris_history.specs.Status.{IsDirty}
use Rattle.iris_file_rules.specs.FileTable.{files}
use Rattle.iris_node.specs.Trees.{Shown}
use Rattle.iris_plain.specs.Checks.{is_full}
use Rattle.iris_rows.specs.Standing.{StandsInTable}
use Rattle.iris_records.specs.Challenges.{table_walk}
use Rattle.iris_rows.specs.FileChanges.{count_written}
use Rattle.iris_table.specs.Replies.{TableReplies}
use Rattle.iris_rows.specs.Rows.{File, Table}
use Rattle.iris_records.specs.Shown.{shown}
use Rattle.iris_file_rules.specs.Reach.{Reaches}

-- the table after a past
abbrev pub files_after : Keys → Past → Table
files_after keys past = table_of (files keys) past

-- and what its names stand for
abbrev pub shown_after : Keys → Past → Shown
shown_after keys past = shown keys.order (files_after keys past)

-- the right replies: a sync is answered where no name is dirty, and all else as the table answers
abbrev pub FileReplies : Keys → Past → Request → Reply → Type 0
FileReplies keys past Sync reply = (reply ≡ Synced) × ((n : Name) → IsDirty (files keys) n past → ⊥)
FileReplies keys past request reply = TableReplies keys.order (files_after keys past) request reply

-- a place that a step of reclaiming drops from a file
abbrev pub IsDropped : Table → FileId → ℕ → Type 0
IsDropped t id p = (f : File) × StandsInTable id.0 f t × (f.version p ≢ 0) × (count_written f.version p < 16)

-- the rules of a file system's calls
abbrev pub file_rules : Keys → Rules
file_rules keys = record {
  replies = FileReplies keys;
  reaches = λ past. let t = files_after keys past in Reaches keys.order (shown keys.order t) (is_full t.age) (IsDropped t) (slice_get (table_walk keys.order t));
  waits = MayWaitForStore (files keys);
}

-- a legal history of a file system
abbrev pub LegalFiles : Keys → Past → Type 0
LegalFiles keys past = IsLegal (files keys) (file_rules keys) past

-- one that a forgery or a collision made bad
abbrev pub BadFiles : Keys → Past → Type 0
BadFiles keys past = IsBad (files keys) (file_rules keys) past
