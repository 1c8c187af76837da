use Rattle.std.proofs.Common.{◌==◌, List, ap, ◌∙◌}
use Rattle.std.specs.List.{list_all}
use Rattle.iris_plain.specs.Checks.{blocks_of}
use Rattle.iris_rows.specs.declared.places.Place.{Place}
use Rattle.iris_rows.specs.FileChanges.{count_written}
use Rattle.iris_rows.specs.Places.{StoredPlaces, file_of, version_at}
use Rattle.iris_rows.proofs.KeptPlaces.{are_holes}
use Rattle.iris_rows.proofs.file.FileRow.is_free.Goals as goal

pub returns : goal.returns
returns c = c.are_holes.ensures ∙ ap (λ (ps : List Place). list_all (λ (place : Place). place.version == 0) ps) c.as_slice.ensures.value ∙ are_holes c.self.inside.places.items
    ∙ ap (λ n. count_written (version_at c.self.inside.places.items) n == 0) c.self.invariant.places
    ∙ ap (λ (f : StoredPlaces). count_written (file_of f).version (blocks_of f.size) == 0) c.self.view_is
