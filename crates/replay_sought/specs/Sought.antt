-- What is looked for in the row for a record.
use Rattle.sheet.specs.Records.{given, step, node, drop, Reading, reads, unread}
use Rattle.replay_spec.specs.Slots.{Sought, nothing, vacancy, holder}

-- a step's left parent, a drop's node
unfoldable pub left_sought : Reading → Sought
left_sought (reads (node (given line c))) = nothing
left_sought (reads (node (step p l r c))) = holder l
left_sought (reads (drop n)) = holder n
left_sought (unread why) = nothing

-- a step's right parent
unfoldable pub right_sought : Reading → Sought
right_sought (reads (node (given line c))) = nothing
right_sought (reads (node (step p l r c))) = holder r
right_sought (reads (drop n)) = nothing
right_sought (unread why) = nothing

-- room for a node
unfoldable pub room_sought : Reading → Sought
room_sought (reads (node (given line c))) = vacancy
room_sought (reads (node (step p l r c))) = vacancy
room_sought (reads (drop n)) = nothing
room_sought (unread why) = nothing
