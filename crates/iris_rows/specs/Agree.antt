-- The law that joins the table to the plain state.
use Rattle.std.specs.Prelude.{◌≡◌}
use Rattle.iris_name.specs.declared.request.Request.{Request}
use Rattle.iris_plain.specs.Steps.{plain_step, plain_verdict}
use Rattle.iris_rows.specs.Rows.{Table}
use Rattle.iris_rows.specs.Changes.{stepped, table_verdict}
use Rattle.iris_rows.specs.View.{view}
use Rattle.iris_rows.specs.Sound.{IsDistinct, AreGood}

-- the view of the table's step is the plain step of its view, by the same checks; so a step of reclaiming leaves the view
abbrev pub ViewsAgree : Type 0
ViewsAgree = (t : Table) (request : Request) → IsDistinct t.visible → AreGood t.visible
    → (view (stepped t request) ≡ plain_step (view t) request) × (table_verdict t request ≡ plain_verdict (view t) request)
