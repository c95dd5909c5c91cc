use Rattle.std.proofs.Common.{Some, ap, arith, sym, subst, ◌∙◌, []}
use Rattle.std.proofs.lemmas.List.{length-map}
use Rattle.std.proofs.lemmas.List.Elements.{All-get_or}
use Rattle.std.proofs.lemmas.Option.{get_or_from_slice_get}
use Rattle.zq_commands.proofs.LeftmostKeys.{leftmost_here, leftmost_later, leftmost_none}
use Rattle.zq_commands.proofs.WordsAt.{word_at}
use Rattle.zq_commands.specs.Lending.{queues_in}
use Rattle.zq_words.specs.Limits.{IsShort}
use Rattle.zq_words.specs.Words.{views}
use Rattle.zq_commands.proofs.pop_leftmost.leftmost.Goals as goal

pub loop-key-preserved : goal.loop-key-preserved
loop-key-preserved g c =
    let words = c.args.keys.now in
    let i = c.loop-key.key-index in
    let queues = queues_in (g.B.Books.lent c.args.books.now) in
    let at = word_at words i c.key-item.result c.deref.result.now c.loop-key-test.true c.key-item.is c.deref.ensures.value in
    record { rest = c.loop-key.invariant.rest ∙ leftmost_later queues (views words) i c.deref.result.now at (sym c.has_members.ensures ∙ c.if-has_members.false) }

pub returns-clause-first : goal.returns-clause-first
returns-clause-first g c =
    let words = c.args.keys.now in
    let queues = queues_in (g.B.Books.lent c.args.books.now) in
    sym (c.loop-key.invariant.rest ∙ leftmost_none queues (views words) c.loop-key.key-index (omega (arith, c.loop-key-test.false, length-map words (λ w. w.items))))

pub returns-then-has_members-clause-first : goal.returns-then-has_members-clause-first
returns-then-has_members-clause-first g c =
    let words = c.args.keys.now in
    let i = c.loop-key.key-index in
    let queues = queues_in (g.B.Books.lent c.args.books.now) in
    let at = word_at words i c.key-item.result c.deref.result.now c.loop-key-test.true c.key-item.is c.deref.ensures.value in
    ap (λ key. Some key) (c.deref-then-has_members.ensures.value ∙ sym c.deref.ensures.value)
    ∙ sym (c.loop-key.invariant.rest ∙ leftmost_here queues (views words) i c.deref.result.now at (sym c.has_members.ensures ∙ c.if-has_members.true))

pub returns-then-has_members-clause-short : goal.returns-then-has_members-clause-short
returns-then-has_members-clause-short g c =
    let words = c.args.keys.now in
    let i = c.loop-key.key-index in
    let at = word_at words i c.key-item.result c.deref-then-has_members.result.now c.loop-key-test.true c.key-item.is c.deref-then-has_members.ensures.value in
    subst IsShort (get_or_from_slice_get (views words) i c.deref-then-has_members.result.now [] at)
    (All-get_or IsShort (views words) i [] (omega (arith, c.loop-key-test.true, length-map words (λ w. w.items))) c.requires.keys)
