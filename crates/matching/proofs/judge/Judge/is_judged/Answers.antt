use Rattle.std.proofs.Common.{◌≡◌, ◌<◌, length, ap, Bool, true, ◌↔◌, is_some, Some, None, Option, refl, ◌∙◌, arith}
use mir.Facts.{Fits-below}
use Rattle.std.proofs.lemmas.List.{get_or_default}
use Rattle.runs.specs.declared.relation.Runs.{Runs}
use Rattle.matching.specs.Judging.{judged_runs}
use Rattle.matching.proofs.Views.{few_groups}
use Rattle.matching.proofs.judge.Judge.is_judged.Goals as goal

-- what is there is some value
there : (o : Option Runs) (b : Bool) → b ≡ is_some o → (b ≡ true) ↔ ((runs : Runs) × (o ≡ Some runs))
there None b e = (λ t. cc, λ h. cc h.1)
there (Some runs) b e = (λ t. (runs, refl), λ h. e)

pub offset_bounds-self-k : goal.offset_bounds-self-k
offset_bounds-self-k g c = Fits-below {n = 16896} tt (omega (arith, c.requires, few_groups c.args.self.now.opened.now))

pub listed : goal.listed
listed g c = omega (arith, c.requires, few_groups c.args.self.now.opened.now)

pub bounds-self-k : goal.bounds-self-k
bounds-self-k g c = omega (arith, c.requires, few_groups c.args.self.now.opened.now)

pub returns : goal.returns
returns g c =
    let self = c.args.self.now in
    let lt : c.args.k < length self.groups = omega (arith, c.requires, few_groups self.opened.now) in
    there (judged_runs self c.args.k) c.is_some.result (c.is_some.ensures ∙ ap is_some (get_or_default self.groups c.args.k c.index-self-k.result None lt))
