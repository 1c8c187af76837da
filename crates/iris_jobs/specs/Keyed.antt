-- The keys that a job's or a chore's owner has.
use Rattle.std.specs.Prelude.{ℕ, List}
use Rattle.iris_mac.specs.declared.keys.Keys.{Keys}
use Rattle.iris_name.specs.Hmac.{block_key, order_key, layout_key, audit_key}

-- the keys made of a master key
abbrev pub keys_of : List ℕ → Keys
keys_of master = record { block = block_key master; order = order_key master; layout = layout_key master; audit = audit_key master }
