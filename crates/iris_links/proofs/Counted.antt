-- What is counted where one entry's counts are written anew.
use Rattle.std.proofs.Common.{◌≡◌, Bool, true, false, cond, Option, Some, refl}
use Rattle.iris_links.specs.declared.linked.Linked.{Linked}
use Rattle.iris_links.specs.Links.{count_in, sum_in}

pub count-cond : (b : Bool) (v : Linked) (o : Option Linked) → count_in (cond b (Some v) o) ≡ cond b v.count (count_in o)
count-cond true v o = refl
count-cond false v o = refl

pub sum-cond : (b : Bool) (v : Linked) (o : Option Linked) → sum_in (cond b (Some v) o) ≡ cond b v.sum (sum_in o)
sum-cond true v o = refl
sum-cond false v o = refl
