use Rattle.std.proofs.Common.{[], Err, Ok, Result, arith, min, not, option_map, ◌+◌, ◌-◌, ◌∙◌, ◌∷◌, ◌≡◌}
use Rattle.std.proofs.lemmas.List.Sums.{count_by-le-length}
use Rattle.std.specs.Prelude.{IfOk}
use Rattle.zq_commands.proofs.ReadFrom.{read_taken}
use Rattle.zq_commands.specs.FirstPairs.{lent_pair}
use Rattle.zq_commands.specs.Sections.{is_entered}
use Rattle.zq_model.proofs.Rising.{rising_keys}
use Rattle.zq_model.specs.Lent.{queues_of}
use Rattle.zq_posheap.proofs.Lists.{there_is}
use Rattle.zq_commands.proofs.zrange.slice_run.Goals as goal

if_ok_same : {X E B Y : Type 0} (P : B → Type 0) (r : Result X E) (f : X → Y) (y z : B → Y) → ((b : B) → P b → y b ≡ z b) → ((b : B) → P b → IfOk r (λ x. f x ≡ y b)) →
    IfOk r (λ x. (b : B) → P b → f x ≡ z b)
if_ok_same P (Ok x) f y z same is = λ b at. is b at ∙ same b at
if_ok_same P (Err e) f y z same is = tt

pub overflow_sub-size : goal.overflow_sub-size
overflow_sub-size g c =
    let lent = g.B.Books.lent c.args.books.now in
    let section = c.args.section.now in
    let book = there_is lent.books c.args.place c.requires.inside in
    let size = c.count-size.ensures book.0 book.1 in
    let behind = c.count_ahead-behind.ensures book.0 book.1 in
    let most = count_by-le-length (λ pair. not (is_entered (not c.args.is_turned) section.min section.max pair)) (queues_of lent.rule (book.0 ∷ []) c.args.key.now) in
    omega (arith, size, behind, most)

pub returns : goal.returns
returns g c =
    let lent = g.B.Books.lent c.args.books.now in
    let section = c.args.section.now in
    let from = c.first_place-from.result in
    let behind = c.count_ahead-behind.result in
    let size = c.count-size.result in
    let taken = c.min-taken.result in
    let least : taken ≡ min (size - behind - from) c.args.most = omega (arith, c.min-taken.ensures, c.saturating_sub.ensures) in
    let start : from + c.min.result ≡ from + min c.args.skipped taken = omega (arith, c.min.ensures) in
    if_ok_same _ c.slice.result _ _ _
    (λ book at. read_taken c.args.is_turned (option_map lent_pair c.args.first) section.min section.max (queues_of lent.rule (book ∷ []) c.args.key.now) from behind size taken (from + c.min.result) (from + taken)
    c.args.skipped c.args.most (rising_keys _) (c.first_place-from.ensures book at) (c.count_ahead-behind.ensures book at) (c.count-size.ensures book at) least start (omega arith))
    c.slice.ensures
