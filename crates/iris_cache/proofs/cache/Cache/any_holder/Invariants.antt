use Rattle.std.proofs.Common.{◌≡◌, false}
use Rattle.iris_cache.specs.declared.held.Held.{Held}
use Rattle.iris_cache.specs.Holders.{has_hash_of}
use Rattle.iris_cache.proofs.EachHeld.{AreEach}
use Rattle.iris_cache.proofs.cache.Cache.any_holder.Given as goal

-- the first nodes don't hold a hash of it
abbrev pub invariant-loop-i : goal.invariant-loop-i
invariant-loop-i l = AreEach (λ (h : Held). has_hash_of h.node l.name ≡ false) l.self.nodes l.i
