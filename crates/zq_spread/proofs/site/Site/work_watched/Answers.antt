use Rattle.std.proofs.Common.{ap, false, refl, rules, sym, true, ◌∙◌, ◌≡◌}
use Rattle.std.specs.Prelude.{map}
use Rattle.zq_commands.specs.Calls.{procedures}
use Rattle.zq_resp.specs.Reply.{reply_bytes}
use Rattle.zq_spread.proofs.Stays.{have_run, not_run}
use Rattle.zq_spread.proofs.Worked.{begun_are}
use Rattle.zq_spread.proofs.site.Site.work_watched.Goals as goal
use Rattle.zq_spread.specs.Several.{helds_of}
use Rattle.zq_spread.specs.Watching.{are_untouched}

pub returns-then-not-are_untouched-clause-called : goal.returns-then-not-are_untouched-clause-called
returns-then-not-are_untouched-clause-called c = λ before found begun outside next.
    let site = c.args.self.now in
    let watch = c.args.watched.now in
    let held = begun_are site before c.args.stamp c.args.heaps.now (helds_of c.args.holds.now) found begun in
    let tested : c.are_untouched.result ≡ false = search rules in (
      refl,
      not_run site watch (procedures c.args.calls.now) before c.end_idle.new.pass c.args.heaps.now found c.args.stamp next
          (c.end_idle.ensures.called before found begun outside next)
          (ap (are_untouched watch.vectors watch.keys) (sym held) ∙ sym c.are_untouched.ensures ∙ tested),
    )

pub returns-clause-called : goal.returns-clause-called
returns-clause-called c = λ before found begun outside next.
    let site = c.args.self.now in
    let watch = c.args.watched.now in
    let held = begun_are site before c.args.stamp c.args.heaps.now (helds_of c.args.holds.now) found begun in
    let tested : c.are_untouched.result ≡ true = search rules in
    have_run site watch (procedures c.args.calls.now) before c.work_each.new.pass c.args.heaps.now found c.args.stamp next
    (map reply_bytes c.args.replies.now.items) (map reply_bytes c.work_each.new.replies.items)
    (c.work_each.ensures.called before found begun outside next)
    (ap (are_untouched watch.vectors watch.keys) (sym held) ∙ sym c.are_untouched.ensures ∙ tested)
