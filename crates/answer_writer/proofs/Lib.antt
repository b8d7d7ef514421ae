mod Pushed
mod SayableLines
mod StatsLaws
