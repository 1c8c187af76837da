-- What a request writes, cuts or fills up goes through.
use Rattle.std.proofs.Common.{◌≡◌, ℕ, Option, Some, None, refl, ap, sym, ◌∙◌, subst}
use Rattle.std.specs.Option.{option_map}
use Rattle.iris_name.specs.declared.name.Name.{Name}
use Rattle.iris_name.specs.declared.name.Name.TheVariants as name
use Rattle.iris_name.specs.declared.request.Request.TheVariants.{Write, Resize}
use Rattle.iris_node.specs.Trees.{Shown, IsTree}
use Rattle.iris_node.specs.Unfolded.{Unfolded, id_of}
use Rattle.iris_cache.specs.Pictures.{Drafts}
use Rattle.iris_version_tree.specs.Versions.{Reversions, whole}
use Rattle.iris_rows.specs.Changes.{filed}
use Rattle.iris_rows.specs.FileChanges.{file_written, cut}
use Rattle.iris_rows.specs.Rows.{File}
use Rattle.iris_records.specs.Shown.{shown}
use Rattle.iris_rows.specs.Sound.{IsSound}
use Rattle.iris_rows.proofs.SoundStep.{sound_kept}
use Rattle.iris_files.specs.Cuts.{versions_cut}
use Rattle.iris_files.specs.Lengths.{with_length}
use Rattle.iris_files.specs.Refiles.{Refiles, HasFile, HasLength}
use Rattle.iris_files.proofs.Between.{sized_same, between_reversions, refiled_length}
use Rattle.iris_forest.proofs.BlockCounts.{countable}
use Rattle.iris_forest.proofs.NodesAreFormed.{stands_tree}
use Rattle.iris_forest.proofs.VersionsOfFile.{files_stand}
use Rattle.iris_plan_laws.specs.FileChanges.{emptied_past, WritesGoThrough, ResizesGoThrough}
use Rattle.iris_plan_laws.proofs.AcceptedRequests.{written_step, resized_step}
use Rattle.iris_plan_laws.proofs.CutBetween.{between_is_sound}
use Rattle.iris_plan_laws.proofs.FileById.{by_file_id, files_refiled}
use Rattle.iris_plan_laws.proofs.Pictured.{pictured_file}

pub writes_go_through : WritesGoThrough
writes_go_through order t path offset bytes i f d c e b a some says =
    let s = b.pictured.sound in
    let step = written_step t path i f a offset bytes b.accepted some in
    let v = subst IsSound step (sound_kept t (Write path offset bytes) s) in
    let u = filed (file_written offset bytes) a.names t in
    let at = by_file_id t (file_written offset bytes) a.names i f a.inside s a.leads in
    subst (λ w. Drafts (shown order t) (shown order w) e c) (sym step)
    (says (shown order t) (shown order t) (shown order u) f (pictured_file order t i f d c b.pictured at.was) (stands_tree order u v) (countable order u v)
    (files_refiled order t (file_written offset bytes) a.names i f a.inside s v a.leads))

-- a file at its length and its counter with other versions is one with other versions alone
pub same_length : (new made : Shown) (i : ℕ) (f : File) (w : ℕ → ℕ) (is : IsTree new) (made_is : IsTree made) (has : HasFile new (id_of i) f) → Refiles new made (id_of i) f.size f.counter w → Reversions new made (id_of i) w
same_length new made i f w is made_is has re = record {
  versions = re.versions;
  others = λ p other. sym (unsized p (made p) refl) ∙ (between_reversions new made (id_of i) f.size f.counter f.size f.counter f.version w is made_is has.versions has.entry re).others p other;
}
  where
    len : HasLength f.size f.counter (made (name.Entry (id_of i)))
    len = subst (HasLength f.size f.counter) (sym (re.others (name.Entry (id_of i)) tt)) (refiled_length i f.size f.counter f.size f.counter (whole i f.version) (whole i w) (new (name.Entry (id_of i))) has.versions.entry has.entry)

    unsized : (p : Name) (o : Option Unfolded) → made p ≡ o → option_map (with_length i f.size f.counter) o ≡ o
    unsized p None e = refl
    unsized p (Some u) e = ap Some (sized_same made made_is i f.size f.counter len u (λ q named. ap made (made_is.own p q u e named) ∙ e))

pub resizes_go_through : ResizesGoThrough
resizes_go_through order t path size i f d c e b a some other says =
    let s = b.pictured.sound in
    let step = resized_step t path i f a size b.accepted some other in
    let v = subst IsSound step (sound_kept t (Resize path size) s) in
    let u = filed (cut size) a.names t in
    let w = between_is_sound t a.names size s v in
    let mid = filed (emptied_past size) a.names t in
    let at = by_file_id t (cut size) a.names i f a.inside s a.leads in
    subst (λ w. Drafts (shown order t) (shown order w) e c) (sym step)
    (says (shown order t) (shown order t) (shown order mid) (shown order u) f (pictured_file order t i f d c b.pictured at.was) (stands_tree order mid w)
    (same_length (shown order t) (shown order mid) i f (versions_cut size f) (stands_tree order t s) (stands_tree order mid w) (files_stand order t i f s at.was)
    (files_refiled order t (emptied_past size) a.names i f a.inside s w a.leads))
    (stands_tree order u v) (countable order u v) (files_refiled order t (cut size) a.names i f a.inside s v a.leads))
