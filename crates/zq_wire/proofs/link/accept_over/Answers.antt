use Rattle.std.proofs.Common.{List, ap, arith, length, subst, sym, ℕ, ◌++◌, ◌<◌, ◌≡◌, ◌∙◌}
use Rattle.std.specs.Io.KnownBytes.{Consumes}
use Rattle.zq_wire.proofs.Answering.{side_stays}
use Rattle.zq_wire.proofs.Known.{consumes_join, consumes_none}
use Rattle.zq_wire.proofs.Paid.{begun}
use Rattle.zq_wire.proofs.link.accept_over.Goals as goal
use Rattle.zq_wire.specs.Links.{answering, form_heard}

pub loop-reader-init : goal.loop-reader-init
loop-reader-init g c = record {
  read = subst (Consumes (g.R.Read.remaining c.args.reader.now) (g.R.Read.remaining c.args.reader.now)) (sym c.new-heard.ensures.items) (consumes_none (g.R.Read.remaining c.args.reader.now));
}

pub loop-reader-preserved : goal.loop-reader-preserved
loop-reader-preserved g c =
    let (piece, read, more) = c.in_ok-read_some.ensures.read in
    record {
      read =
          subst (Consumes (g.R.Read.remaining c.args.reader.now) (g.R.Read.remaining c.read_some.new.reader)) (sym more)
          (consumes_join _ (g.R.Read.remaining c.loop-reader.reader) _ c.loop-reader.heard.items piece c.loop-reader.invariant.read read);
    }

pub returns : goal.returns
returns g c =
    let long : 8 < length c.loop-reader.heard.items = omega arith in
    let form : c.form_heard.result ≡ form_heard c.args.side.now.versions c.loop-reader.heard.items = c.form_heard.ensures ∙ ap (form_heard c.args.side.now.versions) c.deref.ensures.value in
    let same : (piece : List ℕ) → answering c.args.side.now (c.loop-reader.heard.items ++ piece) ≡ record c.args.side.now { form = c.form_heard.result } =
    λ piece. side_stays c.args.side.now c.loop-reader.heard.items piece long ∙ (λ i. record c.args.side.now { form = sym form i }) in
    begun (record c.args.side.now { form = c.form_heard.result }) (answering c.args.side.now) c.loop-reader.heard.items (g.R.Read.remaining c.args.reader.now) (g.R.Read.remaining c.loop-reader.reader) _
    (g.W.Write.contents c.args.writer.now) _ c.greet.result same c.loop-reader.invariant.read c.greet.ensures
