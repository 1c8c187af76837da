-- The rules of entries and parts as tests.
use Rattle.std.specs.Prelude.{◌-◌, ◌^◌, ◌==◌, ◌&&◌, ◌||◌, ℕ, List, [], ◌∷◌, length, not, Bool, true, false, Option, Some, None, nat_lt, nat_le, is_none, if◌then◌else◌}
use Rattle.std.specs.List.{list_all}
use Rattle.iris_node.specs.declared.node.Side.{Side}
use Rattle.iris_node.specs.declared.node.Side.TheVariants.{Fold, Below}
use Rattle.iris_node.specs.declared.node.Link.{Link}
use Rattle.iris_node.specs.declared.node.Body.{Body}
use Rattle.iris_node.specs.declared.node.Body.TheVariants.{Dir, File}
use Rattle.iris_node.specs.Fields.{EntryFields, PartFields}
use Rattle.iris_node.specs.Rules.{most_length, most_level, in_name}

-- one dot, or two
abbrev pub is_dots : List ℕ → Bool
is_dots (b ∷ []) = b == 46
is_dots (b ∷ c ∷ []) = (b == 46) && (c == 46)
is_dots other = false

-- a text is a file's name
abbrev pub is_file_name : List ℕ → Bool
is_file_name name = nat_le 1 (length name) && (nat_le (length name) 255 && (not (is_dots name) && list_all in_name name))

-- where a link is there, it leads to an entry that has a name
abbrev pub is_linked : Option Link → Bool
is_linked None = true
is_linked (Some l) = nat_le 2 l.id.0

-- a directory's link inside leads to a named entry; a file isn't too long
abbrev pub is_body : Body → Bool
is_body (Dir top) = is_linked top
is_body (File size counter versions) = nat_le size most_length

-- this is a directory
abbrev pub is_directory_body : Body → Bool
is_directory_body (Dir top) = true
is_directory_body (File size counter versions) = false

-- a directory without a name, that stands in no directory
abbrev pub is_root : EntryFields → Bool
is_root e = (length e.name == 0) && (is_none e.left && (is_none e.right && is_directory_body e.body))

-- a root by its id, or an entry with a name
abbrev pub is_placed : EntryFields → Bool
is_placed e = if nat_lt e.id.0 2 then is_root e else is_file_name e.name

-- an entry keeps its rules
abbrev pub is_entry : EntryFields → Bool
is_entry e = is_placed e && (is_linked e.left && (is_linked e.right && is_body e.body))

-- all versions on this side are equal
abbrev pub is_fold : Side → Bool
is_fold (Fold v) = true
is_fold (Below h) = false

-- two sides that aren't folds of one version
abbrev pub differ : Side → Side → Bool
differ (Fold v) (Fold w) = not (v == w)
differ (Fold v) (Below h) = true
differ (Below h) other = true

-- a part keeps its rules
abbrev pub is_part : PartFields → Bool
is_part p =
    nat_le 2 p.file.0 && (nat_le 1 p.level && (nat_le p.level most_level && (nat_lt p.index (2 ^ (most_level - p.level))
    && ((not (p.level == 1) || (is_fold p.low && is_fold p.high)) && differ p.low p.high))))
