use Rattle.std.proofs.Common.{◌≡◌, false}
use Rattle.std.specs.Prelude.{is_none}
use Rattle.iris_cache.specs.declared.held.Held.{Held}
use Rattle.iris_cache.specs.Held.{stay_of}
use Rattle.iris_cache.proofs.EachHeld.{AreEach}
use Rattle.iris_cache.proofs.cache.Cache.any_free.Given as goal

-- the first nodes stay
abbrev pub invariant-loop-i : goal.invariant-loop-i
invariant-loop-i l = AreEach (λ (h : Held). is_none (stay_of h) ≡ false) l.self.nodes l.i
