use Rattle.std.proofs.Common.{Bool, false, rules, subst, ◌≡◌}
use Rattle.zq_commands.specs.Commands.{IsRunOver}
use Rattle.zq_resp.specs.Reply.{reply_bytes}
use Rattle.zq_world.specs.Told.{lending_told}
use Rattle.zq_world.proofs.running.run_over.Goals as goal

pub returns-clause-ran : goal.returns-clause-ran
returns-clause-ran c =
    let whole : c.run_told-ran.result.is_short ≡ false = search rules in
    record {
      run = subst (λ (short : Bool). IsRunOver c.args.site c.args.stamp c.args.command.now (lending_told c.args.books.items c.args.made.items)
          (lending_told c.run_told-ran.new.books.books.items c.run_told-ran.new.books.made.items) (reply_bytes c.run_told-ran.result.reply) short) whole c.run_told-ran.ensures.ran;
      heaps = c.run_told-ran.ensures.keeps;
    }
