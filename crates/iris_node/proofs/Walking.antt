-- As many blocks are walked over as are counted.
use Rattle.std.proofs.Common.{◌≡◌, ◌+◌, ◌++◌, ℕ, List, refl, ap, ◌∙◌, length}
use Rattle.std.proofs.lemmas.List.{length-append}
use Rattle.std.proofs.lemmas.List.FromFn.{length-map-range_with_len}
use Rattle.iris_node.specs.Unfolded.{Absent, Folder, Leaf, Even, Split, Stored, blocks}
use Rattle.iris_node.specs.Laws.{WalkCounts}
use Rattle.iris_node.specs.Walk.{BlockAt, walk, file_blocks, block_count}

three : (a b c : List BlockAt) (x y z : ℕ) → length a ≡ x → length b ≡ y → length c ≡ z → length (a ++ (b ++ c)) ≡ x + (y + z)
three a b c x y z p q r =
    length-append a (b ++ c) ∙ ap (λ n. n + length (b ++ c)) p ∙ ap (λ n. x + n) (length-append b c ∙ ap (λ n. n + length c) q ∙ ap (λ n. y + n) r)

pub counted : WalkCounts
counted (Folder id name less more inside) = three (walk less) (walk inside) (walk more) (blocks less) (blocks inside) (blocks more) (counted less) (counted inside) (counted more)
counted (Leaf id name less more size counter versions) =
    three (walk less) (file_blocks id size) (walk more) (blocks less) (block_count size) (blocks more) (counted less) (length-map-range_with_len (λ place. record { file = id; place = place }) 0 (block_count size)) (counted more)
counted Absent = refl
counted (Even version) = refl
counted (Split file level index low high) = refl
counted (Stored version bytes) = refl
