-- What the plan of each kind of request says is said of the request.
use Rattle.std.proofs.Common.{◌≡◌, ℕ, List, Result, IfOk, sym, subst}
use Rattle.std.specs.Prelude.{IfErr}
use Rattle.std.proofs.lemmas.Result.{IfOk-weaker, IfErr-weaker}
use Rattle.iris_blocks.specs.Paged.{Paged}
use Rattle.iris_cache.specs.declared.held.Short.{Short}
use Rattle.iris_cache.specs.Resident.{Resident}
use Rattle.iris_mac.specs.declared.keys.Keys.{Keys}
use Rattle.iris_name.specs.declared.request.Request.{Request}
use Rattle.iris_requests.specs.declared.planned.Counters.{Counters}
use Rattle.iris_requests.specs.declared.planned.Planned.{Planned}
use Rattle.iris_requests.specs.Needed.{IsPlanShort}
use Rattle.iris_requests.specs.Planned.{PlansFor}

module _ (keys : Keys) (c : Resident) (b : Paged) (k : Counters) (r : Result Planned Short) (request kind : Request) (is : request ≡ kind) where
  pub leads_so : IfOk r (PlansFor keys.order kind c b k) → IfOk r (PlansFor keys.order request c b k)
  leads_so h = subst (λ q. IfOk r (PlansFor keys.order q c b k)) (sym is) h

  pub short_so : IfErr r (IsPlanShort keys kind c b k) → IfErr r (IsPlanShort keys request c b k)
  short_so h = subst (λ q. IfErr r (IsPlanShort keys q c b k)) (sym is) h

  -- of a plan that speaks of whatever blocks are resident
  pub leads_by : IfOk r (λ p. (a : Paged) → PlansFor keys.order kind c a k p) → IfOk r (PlansFor keys.order request c b k)
  leads_by h = leads_so (IfOk-weaker r _ _ (λ p f. f b) h)

  pub short_by : IfErr r (λ e. (a : Paged) → IsPlanShort keys kind c a k e) → IfErr r (IsPlanShort keys request c b k)
  short_by h = short_so (IfErr-weaker r _ _ (λ e f. f b) h)
