use Rattle.zq_resp.proofs.reader.partial.count.Goals as goal
use Rattle.zq_resp.proofs.reader.partial.count.Goals.{else-byte-eq45-via-then-byte-eq45+else-matches, in-Start, in_default, else-byte-eq45-via-else-byte-eq45}

pub plain_count-requires-clause-plain : goal.plain_count-requires-clause-plain
plain_count-requires-clause-plain c = λ start minus.
    elim c.else-byte-eq45.branch [
      | else-byte-eq45-via-then-byte-eq45+else-matches w ↦
          elim w.match-matches.branch [ in-Start w' ↦ cc | in_default w' ↦ w'.in_default.not-Start start ]
      | else-byte-eq45-via-else-byte-eq45 w ↦ w.if-byte-eq45.false minus
    ]
