mod InverseLaws
mod NotedLaws
