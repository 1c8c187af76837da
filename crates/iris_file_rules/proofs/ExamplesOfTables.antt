-- What is well formed and what isn't, and a table whose name is a text beside one whose name is none.
use Rattle.std.proofs.Common.{◌≡◌, ℕ, List, [], ◌∷◌, false, true, Some, refl}
use Rattle.std.specs.Str.{is_utf8, chars}
use Rattle.std.proofs.lemmas.Str.{IsUtf8-from_is_utf8, is_utf8-from_IsUtf8}
use Rattle.iris_mac.specs.declared.keys.Keys.{Keys}
use Rattle.iris_name.specs.declared.name.Name.TheVariants.{Entry}
use Rattle.iris_name.specs.declared.note.Note.TheVariants.{Call}
use Rattle.iris_name.specs.declared.request.Reply.TheVariants.{Done}
use Rattle.iris_name.specs.declared.request.Request.TheVariants.{Mkdir}
use Rattle.iris_name.specs.History.{Past}
use Rattle.iris_name.specs.Paths.{names_of}
use Rattle.iris_node.specs.Trees.{Shown}
use Rattle.iris_node.specs.Unfolded.{Unfolded, Absent, Folder, Even, id_of}
use Rattle.iris_table_laws.specs.Texts.{HasTexts}
use Rattle.iris_file_rules.specs.Rules.{files_after, shown_after}
use Rattle.iris_file_rules.specs.TableLaws.{IsWellFormed}
use Rattle.iris_file_rules.proofs.SoundTables.{well_formed}

-- one call made a directory
abbrev made : List ℕ → Past
made path = record { note = Call 1 (Mkdir path) Done; opened = 0 } ∷ []

with_a_directory : (keys : Keys) → IsWellFormed (shown_after keys (made (47 ∷ 97 ∷ [])))
with_a_directory keys = well_formed keys (made (47 ∷ 97 ∷ []))

-- an entry that stands both beside a directory and inside it
abbrev below : Unfolded
below = Folder 3 [] Absent Absent Absent

abbrev stands_twice : Shown
stands_twice n = Some (Folder 2 [] below Absent below)

not_apart : IsWellFormed stands_twice → ⊥
not_apart h = (h.apart (Entry (id_of 2)) (Folder 2 [] below Absent below) refl).1.0 (Entry (id_of 3)) refl refl

-- a version where a link belongs
abbrev version_for_link : Shown
version_for_link n = Some (Folder 2 [] (Even 1) Absent Absent)

not_formed : IsWellFormed version_for_link → ⊥
not_formed h = (h.formed (Entry (id_of 2)) (Folder 2 [] (Even 1) Absent Absent) refl).0

-- the name `a` is a text
has_texts : (keys : Keys) → HasTexts (files_after keys (made (47 ∷ 97 ∷ [])))
unfolding names_of is_utf8 chars lib.Utf8.encode
has_texts keys = ((IsUtf8-from_is_utf8 (97 ∷ []) refl, tt, tt), tt)

-- a byte 255 is none, and no legal history has such a call
no_text : (keys : Keys) → HasTexts (files_after keys (made (47 ∷ 255 ∷ []))) → ⊥
unfolding names_of is_utf8 chars lib.Utf8.encode
no_text keys h = let e : false ≡ true = is_utf8-from_IsUtf8 (255 ∷ []) h.0.0 in absurd (cc)
