-- What is out at a desk: a transfer or settling that has begun and isn't noted yet.
use Rattle.std.specs.Prelude.{◌≡◌, Bool, true, false, if◌then◌else◌, List, Option, is_some, find}
use Rattle.iris_name.specs.Names.{same_name}
use Rattle.iris_name.specs.declared.name.Name.{Name}
use Rattle.iris_desk.specs.declared.out.Doing.{Doing}
use Rattle.iris_desk.specs.declared.out.Doing.TheVariants.{Get, Put, Discard, Settle}
use Rattle.iris_desk.specs.declared.out.Out.{Out}
use Rattle.iris_desk.specs.declared.out.Task.{Task}

-- what tells one thing that is out from another
abbrev pub task_of : Out → Task
task_of o = record { doing = o.doing; name = o.name; since = o.since }

-- whether it reads from the store
abbrev pub is_get : Doing → Bool
is_get Get = true
is_get Put = false
is_get Discard = false
is_get Settle = false

-- whether it writes to the store
abbrev pub is_put : Doing → Bool
is_put Get = false
is_put Put = true
is_put Discard = false
is_put Settle = false

-- The fields fit what is done: exactly a get expects something, and exactly a put carries a record.
pub record FitsDoing (o : Out) : Type 0 where
  pub expects : is_some o.expect ≡ is_get o.doing
  pub carries : is_some o.record ≡ is_put o.doing

-- the same, touched
abbrev pub touched_out : Out → Out
touched_out o = record o { touched = true }

-- touched where it is out for this name
abbrev pub touched_where : Name → Out → Out
touched_where n o = if same_name n o.name then touched_out o else o

-- what is out for a name
abbrev pub out_in : List Out → Name → Option Out
out_in outs n = find (λ o. same_name n o.name) outs
