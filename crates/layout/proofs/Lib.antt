-- Laws of the layout. The theorem is `every_pack` in EveryPack: demand 3 (specs/Demand3) holds of every pack that is built.

-- what an action keeps: rules, every writer, claims on the core alone
pub mod Keep
pub mod Writers
pub mod CoreOnly
-- a definition that a name stands for has that name; a layout, a building and what they are made of
pub mod Named
pub mod Made
-- the numbers of refusals
pub mod Refusals
-- blocks and items: items tile their blocks, blocks tile the data, bytes stand where pointers say, the root is laid last
pub mod Items
pub mod Tiling
pub mod Places
pub mod Blocks
-- pointers: a structure's length, what the four bytes of a slot say, what structures and runs are put together from, what was laid stays
pub mod Sizes
pub mod Laying
pub mod Puts
pub mod Slots
pub mod Join
pub mod Stay
pub mod Apart
pub mod Root
-- F carries each used definition once
pub mod Uses
-- the reader accepts F and reads what was laid
pub mod ReadDefs
pub mod ReadSchema
pub mod ReadMap
pub mod ReadBack
-- the rebuild: rules for one run that follows another, the run with fewer definitions, F as schema file, F again
pub mod Follow
pub mod Fewer
pub mod FewerMembers
pub mod FewerWriters
pub mod Carried
pub mod Rebuild
-- all of it
pub mod EveryPack
-- how the two ways differ
pub mod Ways
-- events only grow, so 14 may be refused on the spot
pub mod Grows
-- a sheet's levels, and that the end of `write`'s recursion is never reached (`fuel_enough`)
pub mod Levels
pub mod Alike
pub mod Enough
