use Rattle.std.proofs.Common.{List}
use Rattle.zq_links.specs.declared.message.Message.{Message}
use Rattle.zq_node.specs.Node.{IsNode, IsSameHome}
use Rattle.zq_peers.specs.Moves.{AreMoves, AreTaken, end_of}
use Rattle.zq_peers.proofs.attending.Link.work.Given as goal

abbrev pub invariant-loop : goal.invariant-loop
invariant-loop g l =
    IsNode l.node × IsSameHome l.initial.node l.node
    × ((messages : List Message) × AreTaken g.I.Inbox.gives l.initial.inbox l.inbox messages
    × AreMoves g.S.Sends.sends g.T.Witness.tells l.self.others.items (end_of l.initial.node l.initial.sender l.initial.witness) (end_of l.node l.sender l.witness) messages)
