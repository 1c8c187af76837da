use Rattle.std.proofs.Common.{◌≡◌, ◌+◌, ◌-◌, ◌/◌, ◌<◌, cond, ℕ, List, ◌++◌, length, replicate, sym, ◌∙◌, ap, subst}
use Rattle.std.specs.Prelude.{slice_get, Some, nat_lt}
use Rattle.iris_rows.specs.declared.places.Place.{Place}
use Rattle.iris_plain.specs.Checks.{blocks_of}
use Rattle.iris_rows.specs.FileChanges.{merged}
use Rattle.iris_rows.specs.Places.{ArePlacesKept, file_of, hole, block_at}
use Rattle.iris_rows.proofs.KeptPlaces.{sliced}
use Rattle.iris_rows.proofs.KeptFiles.{fit_write, kept_write}
use Rattle.iris_rows.proofs.places.write_over.Goals as goal

module _ (c : goal.After-places-1) where
  long : length c.put_pages.new.places ≡ c.extend.new.places.len
  long = c.put_pages.auto.places ∙ c.as_mut_slice.ensures.len

  mid : c.extend.new.places.items ≡ c.args.places.now.items ++ replicate (blocks_of (c.args.offset + length c.args.bytes.now) - length c.args.places.now.items) hole
  mid = c.in_ok-extend.ensures.ok ∙ ap (λ n. c.args.places.now.items ++ replicate (n - length c.args.places.now.items) hole) c.blocks_of.ensures

  pages : (k : ℕ) → k < length c.in_ok-pages.pages.items
      → slice_get c.in_ok-pages.pages.items k ≡ Some (merged c.args.offset c.args.bytes.now (c.args.offset / 4096 + k) (block_at c.args.places.now.items (c.args.offset / 4096 + k)))
  pages k l = c.in_ok-pages.ensures.pages k l ∙ ap (λ (ps : List Place). Some (merged c.args.offset c.args.bytes.now (c.args.offset / 4096 + k) (block_at ps (c.args.offset / 4096 + k)))) c.as_slice.ensures.value

pub returns-clause-ok : goal.returns-clause-ok
returns-clause-ok c =
    ap (λ (ps : List Place). file_of (record { size = cond (nat_lt c.args.size (c.args.offset + length c.args.bytes.now)) (c.args.offset + length c.args.bytes.now) c.args.size; counter = c.args.counter + 1; places = ps }))
    (sliced c.extend.new.places.len c.put_pages.new.places c.extend.new.places.items (long c))
    ∙ fit_write c.args.size c.args.counter c.args.offset c.args.bytes.now c.args.places.now.items c.as_mut_slice.result.now c.put_pages.new.places c.in_ok-pages.pages.items
    c.requires.kept c.requires.some (c.as_mut_slice.ensures.value ∙ mid c) c.in_ok-pages.ensures.len (pages c) c.put_pages.ensures c.put_pages.auto.places

pub returns-clause-kept : goal.returns-clause-kept
returns-clause-kept c =
    let P : List Place → Type 0 = λ ps. ArePlacesKept (record { size = cond (nat_lt c.args.size (c.args.offset + length c.args.bytes.now)) (c.args.offset + length c.args.bytes.now) c.args.size; counter = c.args.counter + 1; places = ps }) in
    subst P (sym (sliced c.extend.new.places.len c.put_pages.new.places c.extend.new.places.items (long c)))
    (kept_write c.args.size c.args.counter c.args.offset c.args.bytes.now c.args.places.now.items c.as_mut_slice.result.now c.put_pages.new.places c.in_ok-pages.pages.items
    c.requires.kept c.requires.some (c.as_mut_slice.ensures.value ∙ mid c) c.in_ok-pages.ensures.len (pages c) c.put_pages.ensures c.put_pages.auto.places c.requires.room)
