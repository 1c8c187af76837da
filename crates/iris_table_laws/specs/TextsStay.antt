-- The law of texts: requests of texts keep the names of a table texts.
use Rattle.std.specs.Str.{IsUtf8}
use Rattle.iris_name.specs.declared.request.Request.{Request}
use Rattle.iris_name.specs.declared.request.Request.TheVariants.{Mkdir, Create, Write, Read, Resize, Stat, List as ListNames, Rename, Remove, Sync, Root, Reclaim, Probe}
use Rattle.iris_rows.specs.Changes.{stepped}
use Rattle.iris_rows.specs.Rows.{Table, empty_table}
use Rattle.iris_table_laws.specs.Texts.{HasTexts}

-- the paths of a request are UTF-8
abbrev pub IsOfTexts : Request → Type 0
IsOfTexts (Mkdir path) = IsUtf8 path
IsOfTexts (Create path) = IsUtf8 path
IsOfTexts (Write path offset bytes) = IsUtf8 path
IsOfTexts (Read path offset count) = IsUtf8 path
IsOfTexts (Resize path size) = IsUtf8 path
IsOfTexts (Stat path) = IsUtf8 path
IsOfTexts (ListNames path after) = IsUtf8 path × IsUtf8 after
IsOfTexts (Rename from to) = IsUtf8 from × IsUtf8 to
IsOfTexts (Remove path) = IsUtf8 path
IsOfTexts Sync = Unit {0}
IsOfTexts Root = Unit {0}
IsOfTexts Reclaim = Unit {0}
IsOfTexts (Probe at) = Unit {0}

-- the names of the table of the beginning are UTF-8
abbrev pub TextsBegin : Type 0
TextsBegin = HasTexts empty_table

-- requests of texts keep the names of a table UTF-8
abbrev pub TextsStay : Type 0
TextsStay = (t : Table) (request : Request) → HasTexts t → IsOfTexts request → HasTexts (stepped t request)
