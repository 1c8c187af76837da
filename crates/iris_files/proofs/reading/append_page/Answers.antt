use Rattle.std.proofs.Common.{◌≡◌, ◌++◌, ap, sym, subst, List, ℕ}
use Rattle.std.specs.Prelude.{OnOk}
use Rattle.std.specs.Option.{option_copied}
use Rattle.iris_rows.specs.Rows.{zeros}
use Rattle.iris_files.specs.Pages.{or_zeros}
use Rattle.iris_files.proofs.reading.append_page.Goals as goal

pub returns-in-None : goal.returns-in-None
unfolding zeros
returns-in-None c =
    subst (λ (l : List ℕ). OnOk c.append-in-None.result (c.append-in-None.new.bytes.items ≡ c.args.bytes.now.items ++ l)) (ap (λ o. or_zeros (option_copied o)) (sym c.in-None.is)) c.append-in-None.ensures
