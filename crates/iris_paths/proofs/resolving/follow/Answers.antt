use Rattle.std.proofs.Common.{◌+◌, ◌++◌, [], drop, subst, inr, arith}
use Rattle.std.proofs.lemmas.Result.{err_from_is_err_and}
use Rattle.iris_paths.specs.Pictured.{IsOnTrail, every}
use Rattle.iris_paths.proofs.Reaching.{Reached, begun, file_here, missing_here, next_here, met_here, search_lacks, next_left, none_left, trail_end}
use Rattle.iris_paths.proofs.resolving.follow.Goals as goal

pub loop-name-init : goal.loop-name-init
loop-name-init c = record {
  sight = λ le. absurd (omega arith);
  dir = λ le. absurd (omega arith);
  come = λ key met old new more found pic r. begun key met c.args.draft.now c.args.cache.now old new pic (c.args.names.now ++ more) found r;
}

pub returns-then-not-is_directory-clause-follows : goal.returns-then-not-is_directory-clause-follows
returns-then-not-is_directory-clause-follows c = λ key met old new more found pic r.
    let names = c.args.names.now in
    let at = c.loop-name.at in
    let above = c.loop-name.above in
    let n = c.name-item.result in
    let left = drop (c.loop-name.name-index + 1) names in
    let come = subst (λ l. Reached new key (names ++ more) (l ++ more) at above found) (next_left names c.loop-name.name-index n c.loop-name-test.true c.name-item.is) (c.loop-name.invariant.come key met old new more found pic r) in
    (file_here key met c.args.draft.now c.args.cache.now old new pic (names ++ more) found at above n (left ++ more) come c.loop-name.invariant.sight (λ h. let t = c.is_directory.ensures.1 h in cc), tt)

pub returns-in_err-id-clause-short : goal.returns-in_err-id-clause-short
returns-in_err-id-clause-short c =
    let p = err_from_is_err_and c.from_residual.result c.from_residual.ensures.1 in
    let names = c.args.names.now in
    let at = c.loop-name.at in
    let above = c.loop-name.above in
    let n = c.name-item.result in
    let d = c.args.draft.now in
    let w = c.args.cache.now in
    let i = c.loop-name.name-index in
    let left = drop (i + 1) names in
    rw (p.1, p.2) (λ key. search_lacks key d w at n every (IsOnTrail key names) _ (c.in_err-id.ensures.short key) (λ met old new pic _.
    let f = pic.meets (names ++ []) in
    let come = subst (λ l. Reached new key (names ++ []) (l ++ []) at above f.0) (next_left names i n c.loop-name-test.true c.name-item.is) (c.loop-name.invariant.come key met old new [] f.0 pic f.1) in
    let h = met_here key met d w old new pic (names ++ []) f.0 at above n (left ++ []) come (c.is_directory.ensures.0 c.if-not-is_directory.false) in
    (h.0, h.1, λ m a. inr (trail_end new key names m (h.2 m a)))))

pub returns-in-None-clause-follows : goal.returns-in-None-clause-follows
returns-in-None-clause-follows c = λ key met old new more found pic r.
    let names = c.args.names.now in
    let at = c.loop-name.at in
    let above = c.loop-name.above in
    let n = c.name-item.result in
    let left = drop (c.loop-name.name-index + 1) names in
    let come = subst (λ l. Reached new key (names ++ more) (l ++ more) at above found) (next_left names c.loop-name.name-index n c.loop-name-test.true c.name-item.is) (c.loop-name.invariant.come key met old new more found pic r) in
    (missing_here key met c.args.draft.now c.args.cache.now old new pic (names ++ more) found at above n (left ++ more) come (c.is_directory.ensures.0 c.if-not-is_directory.false) (λ rows l. rw c.in-None.is at (c.in_ok-id.ensures.found key old new rows l)), tt)

pub loop-name-preserved : goal.loop-name-preserved
loop-name-preserved c =
    let names = c.args.names.now in
    let at = c.loop-name.at in
    let above = c.loop-name.above in
    let n = c.name-item.result in
    let left = drop (c.loop-name.name-index + 1) names in
    record {
      sight = λ _. rw c.in-Some.is at c.in_ok-id.ensures.there;
      dir = c.is_directory.ensures.0 c.if-not-is_directory.false;
      come = λ key met old new more found pic r.
          let come = subst (λ l. Reached new key (names ++ more) (l ++ more) at above found) (next_left names c.loop-name.name-index n c.loop-name-test.true c.name-item.is) (c.loop-name.invariant.come key met old new more found pic r) in
          next_here key met c.args.draft.now c.args.cache.now old new pic (names ++ more) found at above n (left ++ more) come c.in-Some.id (c.is_directory.ensures.0 c.if-not-is_directory.false) (λ rows l. rw c.in-Some.is at (c.in_ok-id.ensures.found key old new rows l));
    }

pub returns-clause-follows : goal.returns-clause-follows
returns-clause-follows c = λ key met old new more found pic r.
    let names = c.args.names.now in
    let come = subst (λ l. Reached new key (names ++ more) (l ++ more) c.loop-name.at c.loop-name.above found) (none_left names c.loop-name.name-index c.loop-name-test.false) (c.loop-name.invariant.come key met old new more found pic r) in
    (come.leads, come.along)
