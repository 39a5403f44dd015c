use Rattle.std.proofs.Common.{◌≡◌, sym, subst, MatchOption, ◌≤◌, rules, tests}
use Rattle.std.proofs.lemmas.Iterator.{YieldsList-from_slice}
use Rattle.std.proofs.lemmas.Iterator.Consumers.{YieldsList-from_filter, YieldsList-from_enumerate, nth_from_yields_List}
use Rattle.std.specs.Option.{option_map}
use Rattle.names.specs.Faults.{mark_byte}
use Rattle.names.specs.Words.{count_of}
use Rattle.names.specs.Joints.{JointAt}
use Rattle.names.proofs.Counts.{nth_place}
use Rattle.names.proofs.joint.nth_mark.Goals as goal

pub returns : goal.returns
returns c =
    let text = c.args.text.now in
    let nth = nth_from_yields_List c.nth.result c.nth.new.self c.args.n c.nth.ensures.ran (YieldsList-from_filter _ (λ e. mark_byte e.1) (YieldsList-from_enumerate (YieldsList-from_slice text cc) cc) c.filter.ensures.closure (λ x b q k. search (rules, tests))) in
    let placed : c.map.result ≡ option_map (λ x. x.0) c.nth.result = search rules in
    subst (λ o. MatchOption o (count_of mark_byte text ≤ c.args.n) (JointAt mark_byte text c.args.n)) (sym placed) (nth_place mark_byte (λ x. (x.0, x.1.now)) text c.args.n c.nth.result nth)
