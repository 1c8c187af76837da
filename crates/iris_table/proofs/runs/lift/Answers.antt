use Rattle.std.proofs.Common.{arith, ◌≡◌, ◌∙◌, ◌++◌, sym, ap, subst, List, length, take, drop, map}
use Rattle.std.proofs.lemmas.List.{length-map}
use Rattle.iris_rows.specs.declared.item.Item.{Item}
use Rattle.iris_rows.specs.Items.{IsForest}
use Rattle.iris_table.specs.Stops.{run_length, relabelled, first_renamed, AreWithin, IsRun, run_row}
use Rattle.iris_table.proofs.RunAtDepth.{written_back, renamed_length, depths_fit, is_run, same_row, left_is, left_forest}
use Rattle.iris_table.proofs.runs.lift.Goals as goal

pub relabel-requires-clause-depths : goal.relabel-requires-clause-depths
relabel-requires-clause-depths c = let Q : List Item → Type 0 = λ z. AreWithin c.index.result.now.depth c.args.to z in subst Q (sym (c.as_mut_slice.ensures.value ∙ c.in_ok-run.ensures.taken)) (depths_fit c.args.items.now.items c.args.place c.args.to c.run_len-count.result c.index.result.now (omega (arith, c.args.items.now.ok.0)) c.index.ensures (c.run_len-count.ensures.value ∙ ap (λ xs. run_length (drop c.args.place xs)) c.as_slice.ensures.value) c.requires.forest (omega (arith, c.args.items.now.ok.0)))

pub returns-clause-run : goal.returns-clause-run
returns-clause-run c =
    let e : c.relabel.new.run ≡ first_renamed c.args.name (map (relabelled c.index.result.now.depth c.args.to) (take c.run_len-count.result (drop c.args.place c.args.items.now.items))) = c.relabel.ensures ∙ ap (λ xs. first_renamed c.args.name (map (relabelled c.index.result.now.depth c.args.to) xs)) (c.as_mut_slice.ensures.value ∙ c.in_ok-run.ensures.taken) in
    let l : length c.relabel.new.run ≡ length c.as_mut_slice.result.now = ap length c.relabel.ensures ∙ renamed_length c.args.name _ ∙ length-map _ _ in
    let b : take c.in_ok-run.run'.len (c.relabel.new.run ++ drop (length c.relabel.new.run) c.in_ok-run.run'.items) ≡ first_renamed c.args.name (map (relabelled c.index.result.now.depth c.args.to) (take c.run_len-count.result (drop c.args.place c.args.items.now.items))) = written_back c.in_ok-run.run'.len c.relabel.new.run c.in_ok-run.run'.items (omega (arith, c.in_ok-run.run'.ok.0, c.as_mut_slice.ensures.len, ap length c.as_mut_slice.ensures.value, l)) ∙ e in
    let Q : List Item → Type 0 = λ z. IsRun c.args.to c.args.name z in
    subst Q (sym b) (is_run c.args.items.now.items c.args.place c.args.to c.run_len-count.result c.index.result.now (omega (arith, c.args.items.now.ok.0)) c.index.ensures (c.run_len-count.ensures.value ∙ ap (λ xs. run_length (drop c.args.place xs)) c.as_slice.ensures.value) c.requires.forest (omega (arith, c.args.items.now.ok.0)) c.args.name)

pub returns-clause-row : goal.returns-clause-row
returns-clause-row c =
    let e : c.relabel.new.run ≡ first_renamed c.args.name (map (relabelled c.index.result.now.depth c.args.to) (take c.run_len-count.result (drop c.args.place c.args.items.now.items))) = c.relabel.ensures ∙ ap (λ xs. first_renamed c.args.name (map (relabelled c.index.result.now.depth c.args.to) xs)) (c.as_mut_slice.ensures.value ∙ c.in_ok-run.ensures.taken) in
    let l : length c.relabel.new.run ≡ length c.as_mut_slice.result.now = ap length c.relabel.ensures ∙ renamed_length c.args.name _ ∙ length-map _ _ in
    let b : take c.in_ok-run.run'.len (c.relabel.new.run ++ drop (length c.relabel.new.run) c.in_ok-run.run'.items) ≡ first_renamed c.args.name (map (relabelled c.index.result.now.depth c.args.to) (take c.run_len-count.result (drop c.args.place c.args.items.now.items))) = written_back c.in_ok-run.run'.len c.relabel.new.run c.in_ok-run.run'.items (omega (arith, c.in_ok-run.run'.ok.0, c.as_mut_slice.ensures.len, ap length c.as_mut_slice.ensures.value, l)) ∙ e in
    ap run_row b ∙ same_row c.args.items.now.items c.args.place c.args.to c.run_len-count.result c.index.result.now (omega (arith, c.args.items.now.ok.0)) c.index.ensures (c.run_len-count.ensures.value ∙ ap (λ xs. run_length (drop c.args.place xs)) c.as_slice.ensures.value) c.requires.forest (omega (arith, c.args.items.now.ok.0)) c.args.name

pub returns-clause-left : goal.returns-clause-left
returns-clause-left c = c.in_ok-run.ensures.left ∙ left_is c.args.items.now.items c.args.place c.args.to c.run_len-count.result c.index.result.now (omega (arith, c.args.items.now.ok.0)) c.index.ensures (c.run_len-count.ensures.value ∙ ap (λ xs. run_length (drop c.args.place xs)) c.as_slice.ensures.value) c.requires.forest (omega (arith, c.args.items.now.ok.0))

pub returns-clause-kept : goal.returns-clause-kept
returns-clause-kept c = let Q : List Item → Type 0 = λ z. IsForest z in subst Q (sym c.in_ok-run.ensures.left) (left_forest c.args.items.now.items c.args.place c.args.to c.run_len-count.result c.index.result.now (omega (arith, c.args.items.now.ok.0)) c.index.ensures (c.run_len-count.ensures.value ∙ ap (λ xs. run_length (drop c.args.place xs)) c.as_slice.ensures.value) c.requires.forest (omega (arith, c.args.items.now.ok.0)))
