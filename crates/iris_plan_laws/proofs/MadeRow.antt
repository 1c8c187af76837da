-- What a request makes goes through.
use Rattle.std.proofs.Common.{inl, ℕ, List, Bool, true, false, Option, Some, None, refl, sym, subst}
use Rattle.std.specs.Prelude.{is_none}
use Rattle.iris_node.specs.Unfolded.{id_of}
use Rattle.iris_cache.specs.Drafted.{Drafted}
use Rattle.iris_cache.specs.Pictures.{Drafts}
use Rattle.iris_cache.specs.Resident.{Resident}
use Rattle.iris_plain.specs.Routes.{parent}
use Rattle.iris_rows.specs.Changes.{seen_in, made}
use Rattle.iris_rows.specs.Rows.{File, Table, root_row, empty_file}
use Rattle.iris_records.specs.Shown.{shown}
use Rattle.iris_rows.specs.Sound.{IsSound}
use Rattle.iris_rows.proofs.SoundStep.{sound_kept}
use Rattle.iris_forest.specs.Places.{rows_of}
use Rattle.iris_forest.proofs.BlockCounts.{countable}
use Rattle.iris_forest.proofs.NamesNowhere.{next_is_new}
use Rattle.iris_forest.proofs.NodesAreFormed.{stands_tree, formed, rooted}
use Rattle.iris_forest.proofs.PathsInTable.{leads_at}
use Rattle.iris_forest.proofs.RowsOfDirectory.{have_rows}
use Rattle.iris_plan_laws.specs.Begun.{IsPictured}
use Rattle.iris_plan_laws.specs.Makes.{making, SaysMade, MakesGoThrough}
use Rattle.iris_plan_laws.specs.Steps.{IsEmptyContent}
use Rattle.iris_plan_laws.proofs.AcceptedRequests.{IsFree, made_kind, made_free, made_step}
use Rattle.iris_plan_laws.proofs.NewRow.{made_rows}
use Rattle.iris_plan_laws.proofs.Pictured.{pictured_paths}

made_through : (order : List ℕ) (t : Table) (kind : Option File) (names : List (List ℕ)) (d : Drafted) (c : Resident) (e : Drafted) → IsEmptyContent kind → IsPictured order t d c → IsSound (made kind names t) → IsFree t names
    → SaysMade order names (id_of t.next) (is_none kind) d c e → Drafts (shown order t) (shown order (made kind names t)) e c
made_through order t kind names d c e fresh p v f says =
    let s = p.sound in
    let l = leads_at order t (parent names) (root_row t) (record { id = f.id; file = None; inside = f.rows }) (id_of 0) s (inl (refl, refl)) f.leads in
    says (seen_in t) (shown order t) (shown order t) (shown order (made kind names t)) (id_of f.id) l.above (rows_of order f.rows) (pictured_paths order t d c p)
    ((rooted order t s, formed order t s), next_is_new order t s)
    l.leads (have_rows order t f.id f.rows s l.stands) (stands_tree order (made kind names t) v) (countable order (made kind names t) v)
    (made_rows order t kind fresh names f.id f.rows s v f.leads f.absent)

pub makes_go_through : MakesGoThrough
makes_go_through order t dir path names d c e b n says =
    let step = made_step t dir path names b.accepted n in
    let v = subst IsSound step (sound_kept t (making dir path) b.pictured.sound) in
    let f = made_free t dir path names b.accepted n in
    subst (λ u. Drafts (shown order t) (shown order u) e c) (sym step) (by dir v says f) where
      by : (dir : Bool) → IsSound (made (made_kind dir) names t) → SaysMade order names (id_of t.next) dir d c e → IsFree t names → Drafts (shown order t) (shown order (made (made_kind dir) names t)) e c
      by true v says f = made_through order t None names d c e tt b.pictured v f says
      by false v says f = made_through order t (Some empty_file) names d c e refl b.pictured v f says
