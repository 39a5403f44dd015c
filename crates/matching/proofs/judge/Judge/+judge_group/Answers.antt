use Rattle.std.proofs.Common.{◌<◌, subst, sym, arith}
use mir.Facts.{Fits-below}
use Rattle.lists.specs.Texts.{Reads}
use Rattle.matching.specs.Judging.{table_of, Means, Derived}
use Rattle.matching.proofs.Grounds.{grounds}
use Rattle.matching.proofs.Ranks.{rank, rank_falls}
use Rattle.matching.proofs.Views.{few_groups, texts_count, text_at}
use Rattle.matching.proofs.Ahead.{TextJudged, goes_both, goes_below, ahead_begins, ahead_on, ahead_done, runs_here, group_judged}
use Rattle.matching.proofs.judge.Judge.+judge_group.Goals as goal

pub loop-m-init : goal.loop-m-init
loop-m-init g t c = ahead_begins c.args.k c.args.self.now c.leads.result.now c.row-m-items.result c.into_iter-m-iterator.result.left c.leads.ensures.tells c.row-m-items.ensures c.into_iter-m-iterator.ensures

pub judge_group-requires : goal.judge_group-requires
judge_group-requires g t c =
    let o = c.args.self.now.opened.now in
    let m = c.in-Some.m in
    let ahead = c.loop-m.invariant in
    let known = grounds o o.leads o.ordered in
    let linked = ahead.linked m c.in-Some.ensures.steps.first.here in
    let falls = subst (λ p. rank p.leads m < rank o.leads c.args.k) (sym ahead.goes.stays.list) (rank_falls o.leads known c.args.k m linked) in
    let less : rank c.loop-m.self.opened.now.leads m < t = omega (arith, falls, c.decreases) in
    λ lifetimes within. (less, (within, goes_below ahead.goes (known.inside c.args.k m linked)))

pub loop-m-preserved : goal.loop-m-preserved
loop-m-preserved g t c = ahead_on c.loop-m.invariant c.in-Some.ensures.steps c.judge_group.ensures.goes c.judge_group.ensures.here

pub returns-then-is_judged-clause-here : goal.returns-then-is_judged-clause-here
returns-then-is_judged-clause-here g t c = c.is_judged.ensures.0 c.if-is_judged.true

pub offset_bounds-texts-k : goal.offset_bounds-texts-k
offset_bounds-texts-k g t c = Fits-below {n = 16640} tt (omega (arith, c.requires, few_groups c.args.self.now.opened.now))

pub bounds-texts-k : goal.bounds-texts-k
bounds-texts-k g t c = omega (arith, goes_below c.loop-m.invariant.goes c.requires, texts_count (table_of c.loop-m.self) c.texts.result.now c.texts.ensures)

pub offset_bounds-self-k : goal.offset_bounds-self-k
offset_bounds-self-k g t c = Fits-below {n = 16896} tt (omega (arith, c.requires, few_groups c.args.self.now.opened.now))

pub listed : goal.listed
listed g t c = omega (arith, c.requires, few_groups c.args.self.now.opened.now)

pub bounds-self-k : goal.bounds-self-k
bounds-self-k g t c = omega (arith, c.requires, few_groups c.args.self.now.opened.now)

pub returns-clause-goes : goal.returns-clause-goes
returns-clause-goes g t c =
    let now = c.loop-m.self in
    let o = now.opened.now in
    let k = c.args.k in
    let runs = c.judge_text-runs.result in
    let ahead = c.loop-m.invariant in
    let below = goes_below ahead.goes c.requires in
    let few : k < 32 = omega (arith, below, few_groups o) in
    let its = text_at (table_of now) c.texts.result.now c.texts.ensures k c.index-texts-k.result (omega (arith, below, texts_count (table_of now) c.texts.result.now c.texts.ensures)) c.index-texts-k.is in
    let judged : TextJudged g.R.WordRule.same now k runs = λ ps is tree reads ready.
    subst (λ n. Means ps (Derived g.R.WordRule.same now tree) n runs) (c.places.ensures ps is) (c.judge_text-runs.ensures ps is tree (subst (λ text. Reads text tree) (sym its) reads) ready)
    in
    goes_both ahead.goes (group_judged now k runs (omega (arith, few)) (grounds o o.leads o.ordered) below (ahead_done ahead c.in-None.ensures.steps.0) judged)

pub returns-clause-here : goal.returns-clause-here
returns-clause-here g t c = (c.judge_text-runs.result, runs_here c.loop-m.self c.args.k c.judge_text-runs.result (omega (arith, c.requires, few_groups c.args.self.now.opened.now)))
