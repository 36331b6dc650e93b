use mathlib.Core.Path.{◌≡◌, sym, ap, ◌∙◌}
use mathlib.Core.List.{List}
use Prim.Native.Nat.{ℕ, ◌<◌}
use Rattle.std.proofs.Common.{arith}
use Rattle.std.proofs.lemmas.Grind.{common_steps}
use Rattle.std.proofs.lemmas.Bool.Decides.{nat_tests}
use lib.ListN.{length}
use Rattle.clause.specs.declared.Clause.{Clause}
use Rattle.sheet.specs.declared.NodeNo.{NodeNo}
use Rattle.sheet.specs.Records.{Record, node, node_at}
use Rattle.press_spec.specs.Links.{link_at}
use Rattle.press_nodes.specs.declared.link.Link.{Link as CodeLink}
use Rattle.press_nodes.specs.declared.link.Link.TheVariants.{Join}
use Rattle.press_nodes.specs.Tables.{link_in, links_in, nodes_in, Nodes}
use Rattle.press_emit.specs.Emission.{Emission, emitted_by, emit_record, Roomy}
use Rattle.press_nodes.proofs.Tables.{links-nodes, link-in}
use Rattle.press_nodes.proofs.Numbers.{numbers-length}
use Rattle.press_nodes.proofs.Found.{found-leaf}
use Rattle.press_last.specs.LastUses.{last_uses}
use Rattle.press_last.proofs.Joined.{found-joined}
use Rattle.press_drops.specs.Turns.{records_at}
use Rattle.press_drops.proofs.Rooms.{differ, alike, turn-room, turn-leaf, Stepped, turn-same, low-inside, low-room, high-inside, high-room, turn_two}
use Rattle.press_drops.proofs.Ordered.emit_turn.Goals as goal

-- what is known once the node's record is written, where the node is a join
module _ (h : List CodeLink) (cs : List Clause) (last : List ℕ) (k : ℕ) (old new : Emission) (m : Record) (x : CodeLink) (p : ℕ) (l r : NodeNo) where
  joined : Nodes h cs → (k < length h) × (last ≡ last_uses (links_in h)) → Roomy (records_at (nodes_in h cs) k) old
      → link_in x ≡ link_at (links_in h) k → x ≡ Join p l r → m ≡ node (node_at (nodes_in h cs) k) → new ≡ emit_record m old
      → Stepped (nodes_in h cs) last k old new l.0 r.0
  joined n i room found is read put = record {
    joined = rw (links-nodes h cs) (found-joined h last k x p l r n.linked i.0 i.1 found is);
    room = room;
    first = put ∙ ap (λ (q : Record). emit_record q old) read;
  }

pub emit_record-requires : goal.emit_record-requires
emit_record-requires c =
    let t = c.args.self.now in
    rw c.node_at-record.ensures (turn-room (nodes_in t.links.now t.clauses.now) c.args.k.0 (emitted_by c.args.emitter.now) c.requires.roomy)

pub returns-in_default-clause-written : goal.returns-in_default-clause-written
returns-in_default-clause-written c =
    let t = c.args.self.now in
    let e = emitted_by c.args.emitter.now in
    c.emit_record.ensures.written
    ∙ ap (λ (q : Record). emit_record q e) c.node_at-record.ensures
    ∙ turn-leaf (nodes_in t.links.now t.clauses.now) c.args.k.0 e _ (sym (link-in _ _ _ c.requires.k_in_bounds.0) ∙ found-leaf _ _ _ c.link_at.ensures c.in_default.is)

pub emit_last-requires-clause-n_in_bounds : goal.emit_last-requires-clause-n_in_bounds
emit_last-requires-clause-n_in_bounds c =
    let f = joined _ _ _ _ _ _ _ _ _ _ _ c.requires.nodes c.requires.k_in_bounds c.requires.roomy c.link_at.ensures c.in-Join.is c.node_at-record.ensures c.emit_record.ensures.written in
    rw (← numbers-length c.args.self.now.last.now) (low-inside f (grind (arith, common_steps, nat_tests)))

pub emit_last-requires-clause-roomy : goal.emit_last-requires-clause-roomy
emit_last-requires-clause-roomy c =
    let f = joined _ _ _ _ _ _ _ _ _ _ _ c.requires.nodes c.requires.k_in_bounds c.requires.roomy c.link_at.ensures c.in-Join.is c.node_at-record.ensures c.emit_record.ensures.written in
    low-room f (grind (arith, common_steps, nat_tests))

pub emit_last-requires-then-ne-clause-n_in_bounds : goal.emit_last-requires-then-ne-clause-n_in_bounds
emit_last-requires-then-ne-clause-n_in_bounds c =
    let f = joined _ _ _ _ _ _ _ _ _ _ _ c.requires.nodes c.requires.k_in_bounds c.requires.roomy c.link_at.ensures c.in-Join.is c.node_at-record.ensures c.emit_record.ensures.written in
    let q = differ _ _ c.if-ne.ensures in
    rw (← numbers-length c.args.self.now.last.now) (high-inside f {low = c.min-low.result.0} (grind (arith, common_steps, nat_tests)) (grind (arith, common_steps, nat_tests)) q)

pub emit_last-requires-then-ne-clause-roomy : goal.emit_last-requires-then-ne-clause-roomy
emit_last-requires-then-ne-clause-roomy c =
    let f = joined _ _ _ _ _ _ _ _ _ _ _ c.requires.nodes c.requires.k_in_bounds c.requires.roomy c.link_at.ensures c.in-Join.is c.node_at-record.ensures c.emit_record.ensures.written in
    let q = differ _ _ c.if-ne.ensures in
    high-room f (grind (arith, common_steps, nat_tests)) (grind (arith, common_steps, nat_tests)) q c.emit_last.ensures.written

pub returns-then-ne-clause-written : goal.returns-then-ne-clause-written
returns-then-ne-clause-written c =
    let f = joined _ _ _ _ _ _ _ _ _ _ _ c.requires.nodes c.requires.k_in_bounds c.requires.roomy c.link_at.ensures c.in-Join.is c.node_at-record.ensures c.emit_record.ensures.written in
    let q = differ _ _ c.if-ne.ensures in
    turn_two f (grind (arith, common_steps, nat_tests)) (grind (arith, common_steps, nat_tests)) q c.emit_last.ensures.written c.emit_last-then-ne.ensures.written

pub returns-else-ne-clause-written : goal.returns-else-ne-clause-written
returns-else-ne-clause-written c =
    let f = joined _ _ _ _ _ _ _ _ _ _ _ c.requires.nodes c.requires.k_in_bounds c.requires.roomy c.link_at.ensures c.in-Join.is c.node_at-record.ensures c.emit_record.ensures.written in
    let q = alike _ _ c.if-ne.ensures in
    turn-same f (grind (arith, common_steps, nat_tests)) q c.emit_last.ensures.written
