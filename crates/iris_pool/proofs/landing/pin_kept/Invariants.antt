use Rattle.std.proofs.Common.{◌&&◌, nat_lt}
use Rattle.iris_desk.specs.AtDesks.{keeps_for}
use Rattle.iris_pool.specs.Filing.{PinsKept}
use Rattle.iris_pool.proofs.landing.pin_kept.Given as goal

-- what is kept for the first callers is pinned for them
abbrev pub invariant-loop-who : goal.invariant-loop-who
invariant-loop-who l = PinsKept (λ w q. nat_lt w l.who && keeps_for l.desks w q) l.initial.cache l.cache l.initial.blocks l.blocks
