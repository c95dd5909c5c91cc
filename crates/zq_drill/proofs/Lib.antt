pub mod Crossing
mod AllListed
mod Gathered
mod Meetings
mod Nexts
mod Opened
mod Outcomes
mod Places
mod Pushed
mod Rounds
mod Sames
mod Sorteds
mod SiteShares
