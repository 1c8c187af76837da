use Rattle.std.proofs.Common.{◌≡◌, ℕ, List, [], ◌∷◌, Option, Some, None, refl}
use Rattle.iris_rows.specs.Rows.{File, Taken, find, resolved, followed, entered}
use Rattle.iris_rows.proofs.PlainWalk.{NotThere, through, walk, reached}
use Rattle.iris_rows.specs.View.{kind_of, into, bound, kind_below}

nowhere : (ns : List (List ℕ)) → walk (λ q. None) ns ≡ NotThere
nowhere [] = refl
nowhere (n ∷ ns) = refl

pub walk_look : (ns : List (List ℕ)) (row : Taken) → walk (λ q. kind_below q row) ns ≡ reached (resolved ns row)
walk_look [] row = refl
walk_look (n ∷ ns) row = by row.file (find n row.inside) (walk_look ns) where
  by : (file : Option File) (f : Option Taken) → ((below : Taken) → walk (λ q. kind_below q below) ns ≡ reached (resolved ns below))
      → through (Some (kind_of file)) (walk (λ q. into file (bound f (λ below. kind_below q below))) ns) ≡ reached (entered file (followed f (λ below. resolved ns below)))
  by None None h = nowhere ns
  by None (Some below) h = h below
  by (Some file) f h = refl
