use Rattle.std.proofs.lemmas.Result.{err_from_is_err_and}
use Rattle.lists.proofs.Deciding.{lawful_list}
use Rattle.openings.proofs.Beginning.{reads_well, through, halted, never_met}
use Rattle.openings.proofs.opening.Opening.new.Goals as goal

pub of-requires : goal.of-requires
of-requires g c = reads_well (g.M.Membership.has c.args.members.now) (lawful_list _ c.args.list.now.lawful) c.in_ok-names.ensures

pub returns-clause-answer : goal.returns-clause-answer
returns-clause-answer g c = through (g.M.Membership.has c.args.members.now) (lawful_list _ c.args.list.now.lawful) c.in_ok-names.ensures c.of.result c.of.ensures.met c.of.ensures.none_given

pub returns-in_err-names-clause-answer : goal.returns-in_err-names-clause-answer
returns-in_err-names-clause-answer g c meaning agree =
    let p = err_from_is_err_and c.from_residual.result c.from_residual.ensures.1 in
    rw (p.1, p.2) (halted (g.M.Membership.has c.args.members.now) (lawful_list _ c.args.list.now.lawful) c.in_err-names.ensures meaning agree)

pub returns-in_err-names-clause-refused : goal.returns-in_err-names-clause-refused
returns-in_err-names-clause-refused g c =
    let p = err_from_is_err_and c.from_residual.result c.from_residual.ensures.1 in
    rw p.1 (never_met (g.M.Membership.has c.args.members.now) (lawful_list _ c.args.list.now.lawful) c.in_err-names.ensures)
