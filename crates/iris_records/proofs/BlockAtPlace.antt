-- What the walk over files meets, file by file.
use Rattle.std.proofs.Common.{◌≡◌, ℕ, zero, suc, ◌+◌, ◌-◌, ◌<◌, ◌≤◌, List, [], ◌∷◌, ◌++◌, length, Some, None, slice_get, get_or, refl, sym, ◌∙◌, ap, subst, arith, length-append}
use Rattle.std.proofs.lemmas.List.{append-nil}
use Rattle.std.proofs.lemmas.List.Elements.{Contains-append_left, Contains-append_right}
use Rattle.std.proofs.lemmas.List.FromFn.{length-map-range_with_len, get_or-map-range_with_len}
use Rattle.std.proofs.lemmas.Option.{slice_get_past, slice_get_within, slice_get-get_or}
use Rattle.iris_name.specs.declared.name.FileId.{FileId}
use Rattle.iris_name.specs.declared.request.PlainError.TheVariants.{NotFound}
use Rattle.iris_name.specs.declared.request.Reply.TheVariants.{Probed, Plain}
use Rattle.iris_node.specs.Walk.{BlockAt, file_blocks, block_count}
use Rattle.iris_records.specs.Challenges.{table_walk, IsProbed}
use Rattle.iris_records.specs.declared.challenge.Met.{Met}
use Rattle.iris_records.specs.declared.challenge.Met.TheVariants.{Block, Past}
use Rattle.iris_rows.specs.declared.item.Item.{Item}
use Rattle.iris_rows.specs.Items.{kept_file, IsForest, table_over}
use Rattle.iris_rows.specs.declared.places.Place.{Place}
use Rattle.iris_rows.specs.Places.{StoredPlaces, ArePlacesKept, file_of, version_at, place_version}
use Rattle.iris_rows.specs.Rows.{File}
use Rattle.iris_records.specs.Strides.{own_file, files_of, blocks_of_all, WalkMeets}
use Rattle.iris_records.proofs.WalkOverFiles.{blocks_joined, walk_is, file_stands}

abbrev Files : Type 0
Files = List (ℕ × File)

slice_right : {A : Type 0} (xs ys : List A) (n m : ℕ) → n ≡ length xs + m → slice_get (xs ++ ys) n ≡ slice_get ys m
slice_right [] ys n m e = ap (slice_get ys) (omega (arith, e))
slice_right (x ∷ xs) ys zero m e = absurd (omega (arith, e))
slice_right (x ∷ xs) ys (suc n) m e = slice_right xs ys n m (omega (arith, e))

slice_left : {A : Type 0} (xs ys : List A) (n : ℕ) (x : A) → slice_get xs n ≡ Some x → slice_get (xs ++ ys) n ≡ Some x
slice_left [] ys n x e = absurd (let h = slice_get_within [] n x e in omega (arith, h))
slice_left (y ∷ xs) ys zero x e = e
slice_left (y ∷ xs) ys (suc n) x e = slice_left xs ys n x e

-- a block among the first files
pub meets_left : (a b : Files) (at : ℕ) (file : FileId) (place version : ℕ) → WalkMeets a at (Block file place version) → WalkMeets (a ++ b) at (Block file place version)
meets_left a b at file place version (f, c, s, v) =
    (f, Contains-append_left a b (file.0, f) c, ap (λ z. slice_get z at) (blocks_joined a b) ∙ slice_left (blocks_of_all a) (blocks_of_all b) at _ s, v)

-- what is met past the first files
pub meets_right : (a b : Files) (at m : ℕ) (r : Met) → at ≡ length (blocks_of_all a) + m → WalkMeets b m r → WalkMeets (a ++ b) at r
meets_right a b at m (Block file place version) e (f, c, s, v) =
    (f, Contains-append_right a b (file.0, f) c, ap (λ z. slice_get z at) (blocks_joined a b) ∙ slice_right (blocks_of_all a) (blocks_of_all b) at m e ∙ s, v)
meets_right a b at m (Past more) e h = let l = ap length (blocks_joined a b) ∙ length-append (blocks_of_all a) (blocks_of_all b) in omega (arith, e, h, l)

pub meets_first : (a b : Files) (at : ℕ) (m : Met) → ((more : ℕ) → m ≡ Past more → ⊥) → WalkMeets a at m → WalkMeets (a ++ b) at m
meets_first a b at (Block file place version) n h = meets_left a b at file place version h
meets_first a b at (Past more) n h = absurd (n more refl)

own_length : (id : ℕ) (f : File) → length (blocks_of_all ((id, f) ∷ [])) ≡ block_count f.size
own_length id f = ap length (append-nil (file_blocks id f.size)) ∙ length-map-range_with_len (λ place. record { file = id; place = place }) 0 (block_count f.size)

own_block : (id : ℕ) (f : File) (place : ℕ) → place < block_count f.size → slice_get (blocks_of_all ((id, f) ∷ [])) place ≡ Some (record { file = id; place = place })
own_block id f place h =
    let at : ℕ → BlockAt = λ p. record { file = id; place = p } in
    let n : length (file_blocks id f.size) ≡ block_count f.size = length-map-range_with_len at 0 (block_count f.size) in
    ap (λ z. slice_get z place) (append-nil (file_blocks id f.size)) ∙ slice_get-get_or (file_blocks id f.size) place (at 0) (omega (arith, n, h))
    ∙ ap Some (get_or-map-range_with_len at 0 (block_count f.size) place place (at 0) h (omega arith))

-- past a directory
pub step_inside : (item : Item) (rest : List Item) (left : ℕ) (r : Met) → item.file ≡ None → WalkMeets (files_of rest) left r → WalkMeets (files_of (item ∷ rest)) left r
step_inside item rest left r e h = subst (λ z. WalkMeets (own_file item.id.0 (kept_file z) ++ files_of rest) left r) (sym e) h

module _ (item : Item) (rest : List Item) (places : List Place) (left : ℕ) where
  -- past a file
  pub step_past : (k : StoredPlaces) (r : Met) → item.file ≡ Some k → ArePlacesKept k → places ≡ k.places → length places ≤ left
      → WalkMeets (files_of rest) (left - length places) r → WalkMeets (files_of (item ∷ rest)) left r
  step_past k r e kept p h m =
      let n : length (blocks_of_all ((item.id.0, file_of k) ∷ [])) ≡ length places = own_length item.id.0 (file_of k) ∙ sym (ap length p ∙ kept.places) in
      subst (λ z. WalkMeets (own_file item.id.0 (kept_file z) ++ files_of rest) left r) (sym e)
      (meets_right ((item.id.0, file_of k) ∷ []) (files_of rest) left (left - length places) r (omega (arith, n, h)) m)

  -- at a block of a file
  pub step_here : (k : StoredPlaces) (d : Place) → item.file ≡ Some k → ArePlacesKept k → places ≡ k.places → left < length places
      → WalkMeets (files_of (item ∷ rest)) left (Block item.id left (get_or places left d).version)
  step_here k d e kept p h =
      let n : length places ≡ block_count k.size = ap length p ∙ kept.places in
      let v : (get_or places left d).version ≡ version_at k.places left = sym (ap (λ z. place_version (slice_get z left)) (sym p) ∙ ap place_version (slice_get-get_or places left d h)) in
      subst (λ z. WalkMeets (own_file item.id.0 (kept_file z) ++ files_of rest) left (Block item.id left (get_or places left d).version)) (sym e)
      (meets_left ((item.id.0, file_of k) ∷ []) (files_of rest) left item.id left (get_or places left d).version
      (file_of k, (0, omega arith, refl), own_block item.id.0 (file_of k) left (omega (arith, n, h)), v))

-- the reply for what is met
pub probed : (order : List ℕ) (visible trash : List Item) (next age at : ℕ) (file : FileId) (place version : ℕ) → IsForest visible → IsForest trash
    → WalkMeets (files_of visible ++ files_of trash) at (Block file place version)
    → IsProbed (table_over visible trash next age) (slice_get (table_walk order (table_over visible trash next age)) at) (Probed file place version)
probed order visible trash next age at file place version f g (c, among, is, v) =
    subst (λ z. IsProbed (table_over visible trash next age) z (Probed file place version)) (sym (ap (λ z. slice_get z at) (walk_is order visible trash next age f g) ∙ is))
    (c, file_stands visible trash next age file.0 c f g among, ap (λ z. Probed file place z) v)

pub not_found : (order : List ℕ) (visible trash : List Item) (next age at more : ℕ) → IsForest visible → IsForest trash
    → WalkMeets (files_of visible ++ files_of trash) at (Past more)
    → IsProbed (table_over visible trash next age) (slice_get (table_walk order (table_over visible trash next age)) at) (Plain NotFound)
not_found order visible trash next age at more f g h =
    subst (λ z. IsProbed (table_over visible trash next age) z (Plain NotFound))
    (sym (ap (λ z. slice_get z at) (walk_is order visible trash next age f g) ∙ slice_get_past (blocks_of_all (files_of visible ++ files_of trash)) at (omega (arith, h)))) refl
